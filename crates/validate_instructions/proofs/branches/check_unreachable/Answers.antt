use Rattle.std.proofs.Common.{refl, []}
use Rattle.types.specs.declared.instr.PlainInstr.TheVariants as plain
use Rattle.validate_instructions.proofs.Moves.{takes_none}
use Rattle.validate_instructions.proofs.Fitting.{checked_stop}
use Rattle.validate_instructions.proofs.branches.check_unreachable.Goals as goal

pub returns : goal.returns
returns c = λ con labels. checked_stop con labels plain.Unreachable [] _ _ _ [] (takes_none c.args.block.now)
    c.stop.ensures.shape c.stop.ensures.flow c.stop.ensures.bare (λ below us. tt) (λ live. refl) refl
