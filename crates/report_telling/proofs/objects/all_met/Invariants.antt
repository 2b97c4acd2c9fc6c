use Rattle.std.proofs.Common.{take}
use Rattle.std.specs.List.{AllZip}
use Rattle.report_telling.specs.SearchObjects.{IsMetOf}
use Rattle.report_telling.proofs.objects.all_met.Given as goal

abbrev pub invariant-loop-at : goal.invariant-loop-at
invariant-loop-at l = AllZip (IsMetOf l.sought) (take l.at l.met) l.all.items
