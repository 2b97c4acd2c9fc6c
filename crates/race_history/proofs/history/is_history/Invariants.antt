use Rattle.std.proofs.Common.{◌≡◌, take}
use Rattle.shared_memory.specs.History.{AreEntries, queue_after}
use Rattle.shared_memory.specs.Legal.{IsQueueLegal}
use Rattle.race_history.proofs.history.is_history.Given as goal

abbrev pub invariant-loop-entry : goal.invariant-loop-entry
invariant-loop-entry l = record {
  queue : l.queue ≡ queue_after (take l.entry-index l.log);
  entries : AreEntries (take l.entry-index l.log);
  legal : IsQueueLegal (take l.entry-index l.log);
}
