use Rattle.race_history.specs.Lasts.{AreLasts, table}
use Rattle.race_history.specs.Sources.{rows}
use Rattle.race_history.specs.Writers.{AreWriters}
use Rattle.race_history.proofs.writers.find_writers.Given as goal

abbrev pub invariant-loop-place : goal.invariant-loop-place
invariant-loop-place l = record {
  lasts : AreLasts l.log l.sites l.opening l.place (table l.lasts);
  found : AreWriters l.log l.sites l.opening l.place (rows l.found.items);
}
