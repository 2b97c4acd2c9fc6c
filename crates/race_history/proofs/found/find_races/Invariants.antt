use Rattle.std.proofs.Common.{◌≤◌, length}
use Rattle.race_history.specs.Lasts.{AreLasts, table}
use Rattle.race_history.proofs.Racing.{AreFound}
use Rattle.race_history.proofs.found.find_races.Given as goal

abbrev pub invariant-loop-place : goal.invariant-loop-place
invariant-loop-place l = record {
  lasts : AreLasts l.log l.sites l.opening l.place (table l.lasts);
  found : AreFound l.log l.sites l.opening l.place l.pairs.items;
  few : length l.pairs.items ≤ l.most;
}
