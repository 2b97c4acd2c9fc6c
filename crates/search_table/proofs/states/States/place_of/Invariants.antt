use Rattle.std.proofs.Common.{◌≡◌, ℕ, ◌<◌}
use Rattle.search_table.specs.Tables.{number_after, row_digest, IsOthers}
use Rattle.search_table.proofs.states.States.place_of.Given as goal

abbrev pub invariant-loop-passed : goal.invariant-loop-passed
invariant-loop-passed l = record {
  number : l.number ≡ number_after (row_digest l.row) l.passed;
  others : (n : ℕ) → n < l.passed → IsOthers l.self l.row (number_after (row_digest l.row) n);
}
