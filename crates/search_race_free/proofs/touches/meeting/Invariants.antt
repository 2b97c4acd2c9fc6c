use Rattle.std.proofs.Common.{ℕ, ◌≡◌, ◌≢◌, ◌<◌, Some}
use Rattle.search_settled.specs.Accesses.{Race}
use Rattle.search_settled.specs.declared.access.NextAccess.{NextAccess}
use Rattle.search_race_free.specs.Touches.{access_at}
use Rattle.search_race_free.proofs.touches.meeting.Given as goal

abbrev pub invariant-loop-other : goal.invariant-loop-other
invariant-loop-other l = record {
  missed : (u : ℕ) → u < l.other → (b : NextAccess) → access_at l.wanted u ≡ Some b → u ≢ l.thread → Race l.access b → ⊥;
}
