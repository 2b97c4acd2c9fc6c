use Rattle.std.proofs.Common.{◌≡◌, take, sum_by}
use Rattle.report_telling.specs.Drawn.{runs_if_cut}
use Rattle.report_telling.proofs.table.cut_of.Given as goal

abbrev pub invariant-loop-met : goal.invariant-loop-met
invariant-loop-met l = l.cut ≡ sum_by runs_if_cut (take l.met-index l.table.met.items)
