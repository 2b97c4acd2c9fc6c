use Rattle.std.proofs.Common.{ℕ, ◌≡◌, ◌<◌, Some}
use Rattle.search_settled.specs.declared.access.NextAccess.{NextAccess}
use Rattle.search_race_free.specs.Touches.{access_at, StrikesNobody, MeetsNobody}
use Rattle.search_race_free.proofs.touches.first_race.Given as goal

abbrev pub invariant-loop-other : goal.invariant-loop-other
invariant-loop-other l = record {
  clear : (t : ℕ) → t < l.other → (a : NextAccess) → access_at l.wanted t ≡ Some a → StrikesNobody l.owned t a × MeetsNobody l.wanted t a;
}
