use Rattle.validate_instructions.proofs.Moves.{moving}
use Rattle.validate_instructions.proofs.operands.replace.Goals as goal

pub returns : goal.returns
returns c = moving _ _ _ _ _ _ c.in_ok-take_all.ensures c.put_result.ensures
