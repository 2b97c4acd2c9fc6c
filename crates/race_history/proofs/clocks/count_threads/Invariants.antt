use Rattle.std.proofs.Common.{◌<◌, take}
use Rattle.std.specs.List.{All}
use Rattle.types.specs.declared.event.Entry.{Entry}
use Rattle.race_history.proofs.clocks.count_threads.Given as goal

abbrev pub invariant-loop-entry : goal.invariant-loop-entry
invariant-loop-entry l = All (λ (e : Entry). e.thread < l.count) (take l.entry-index l.log)
