use Rattle.std.proofs.Common.{◌≡◌, length}
use Rattle.live_locals.proofs.Sound.{AreSoundBelow}
use Rattle.live_locals.proofs.tables.live_tables.Given as goal

abbrev pub invariant-loop-own : goal.invariant-loop-own
invariant-loop-own l = record {
  long : length l.tables.items ≡ l.own;
  sound : AreSoundBelow l.own l.bodies l.branches l.tables.items;
}
