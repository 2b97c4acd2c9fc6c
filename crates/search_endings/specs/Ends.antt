-- How a run ended.
use Rattle.std.specs.Prelude.{ℕ, Bool, true, false, List, if◌then◌else◌}
use Rattle.std.specs.List.{list_all}
use Rattle.types.specs.declared.outcome.Outcome.{Outcome}
use Rattle.types.specs.declared.outcome.Outcome.TheVariants as outcomes
use Rattle.types.specs.declared.outcome.ThreadReport.{ThreadReport}

-- A thread ended well: its function returned.
abbrev pub is_done : Outcome → Bool
is_done (outcomes.Done result) = true
is_done (outcomes.Trap t) = false
is_done (outcomes.Stop s) = false

-- The status of a run: 0 where all threads ended well, and otherwise 1.
abbrev pub status_of : List ThreadReport → ℕ
status_of threads = if list_all (λ r. is_done r.outcome) threads then 0 else 1
