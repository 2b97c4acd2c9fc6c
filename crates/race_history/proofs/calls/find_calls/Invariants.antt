use Rattle.std.proofs.Common.{◌≡◌, take}
use Rattle.shared_memory.specs.History.{queue_after}
use Rattle.race_history.specs.Calls.{AreCalls, AreWoken}
use Rattle.race_history.proofs.calls.find_calls.Given as goal

abbrev pub invariant-loop-place : goal.invariant-loop-place
invariant-loop-place l = record {
  queue : l.queue ≡ queue_after (take l.place l.log);
  woken : AreWoken l.log l.place l.woken.items;
  calls : AreCalls l.log l.place l.calls;
}
