use Rattle.std.proofs.Common.{◌≡◌, length, take}
use Rattle.show_events.specs.Events.{AreAmong}
use Rattle.show_events.proofs.write.threads_among.Given as goal

abbrev pub invariant-loop-place : goal.invariant-loop-place
invariant-loop-place l = record {
  long : length l.among.items ≡ length l.log;
  are : AreAmong l.log (take l.place l.chosen) l.among.items;
}
