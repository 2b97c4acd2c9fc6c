use Rattle.interp_accesses.proofs.Rest.{left_below}
use Rattle.interp_accesses.proofs.atomic_operands.drop_top.Goals as goal

pub returns-clause-left : goal.returns-clause-left
returns-clause-left c = let e = c.truncate.ensures.items in let l = c.len.ensures in let b = left_below c.args.values.now.items c.args.count c.requires in cc
