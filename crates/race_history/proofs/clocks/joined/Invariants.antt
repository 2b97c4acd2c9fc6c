use Rattle.std.proofs.Common.{◌≡◌, length, take}
use Rattle.race_history.specs.Sources.{rows}
use Rattle.race_history.specs.Clocks.{IsJoined}
use Rattle.race_history.proofs.clocks.joined.Given as goal

abbrev pub invariant-loop-source : goal.invariant-loop-source
invariant-loop-source l = record {
  wide : length l.row.items ≡ l.threads;
  joined : IsJoined (rows l.clocks) (take l.source-index l.sources) l.row.items;
}
