use Rattle.std.proofs.Common.{arith}
use Rattle.search_graph.proofs.Reaching.{fewer-set}
use Rattle.search_graph.proofs.ends.mark_back.Goals as goal

pub returns-clause-fewer : goal.returns-clause-fewer
returns-clause-fewer c _ = fewer-set c.args.marks.now c.args.m.from c.requires.from c.if-marks-from.false

pub returns-clause-most : goal.returns-clause-most
returns-clause-most c = omega (arith, fewer-set c.args.marks.now c.args.m.from c.requires.from c.if-marks-from.false)
