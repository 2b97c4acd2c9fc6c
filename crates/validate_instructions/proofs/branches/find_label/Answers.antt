use Rattle.std.proofs.Common.{rules}
use Rattle.validate_instructions.proofs.Labels.{label_around}
use Rattle.validate_instructions.proofs.branches.find_label.Goals as goal

pub returns-then-index-outer : goal.returns-then-index-outer
returns-then-index-outer c = label_around c.args.block.now c.args.outer.now c.args.index c.index-outer-outer.result (search rules) (search rules)
