use Rattle.std.proofs.Common.{ℕ, ◌≡◌, ◌<◌, Some}
use Rattle.search_settled.specs.Accesses.{IsTimed}
use Rattle.search_settled.specs.declared.access.NextAccess.{NextAccess}
use Rattle.search_race_free.specs.Touches.{access_at}
use Rattle.search_race_free.proofs.timeouts.any_timed.Given as goal

abbrev pub invariant-loop-n : goal.invariant-loop-n
invariant-loop-n l = record { missed : (t : ℕ) → t < l.n → (a : NextAccess) → access_at l.wanted t ≡ Some a → IsTimed a → ⊥ }
