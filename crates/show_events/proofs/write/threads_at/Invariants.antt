use Rattle.std.proofs.Common.{take}
use Rattle.std.specs.List.{AllZip}
use Rattle.show_events.specs.Events.{IsThreadAt}
use Rattle.show_events.proofs.write.threads_at.Given as goal

abbrev pub invariant-loop-place : goal.invariant-loop-place
invariant-loop-place l = AllZip (IsThreadAt l.log) (take l.place l.chosen) l.threads.items
