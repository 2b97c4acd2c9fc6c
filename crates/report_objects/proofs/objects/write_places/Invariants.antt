use Rattle.std.proofs.Common.{take}
use Rattle.report_objects.proofs.ObjectRows.{HasRows}
use Rattle.report_objects.proofs.objects.write_places.Given as goal

abbrev pub invariant-loop-place : goal.invariant-loop-place
invariant-loop-place g l = HasRows l.shown l.map l.story (take l.place l.places) l.is_first
    (g.W.Write.contents l.initial.out) (g.W.Write.contents l.out)
