-- What is known where all is well, and the status.
use Rattle.std.proofs.Common.{ℕ, ◌≡◌, List, All, true, refl, sym, subst, arith}
use Rattle.search_endings.specs.Endings.{Ending}
use Rattle.search_reach.specs.declared.ending.Ended.{Ended}
use Rattle.search_reach.specs.declared.liveness.FairCycle.{FairCycle}
use Rattle.search_reach.specs.declared.liveness.Liveness.{Liveness}
use Rattle.search_finds.specs.Finds.{IsLookedFor}
use Rattle.selection.specs.declared.sought.Sought.{Sought}
use Rattle.selection.specs.declared.sought.SearchTarget.{SearchTarget}
use Rattle.report_command.specs.declared.search.Search.{Search}
use Rattle.report_telling.specs.Complete.{AreAllWell, EndsForSure}
use Rattle.report_telling.specs.Racing.{allows}
use Rattle.report_telling.specs.declared.found.WholeSearch.{WholeSearch}
use Rattle.report_finds.specs.Endless.{GoesRound, HasNoEnd, HasNoEndless}
use Rattle.report_finds.specs.Sought.{IsFirstSought, IsStatusOf}

-- that a first one is looked for, and none is, can't both be
pub first_is_sought : (s : Sought) (endings : List Ending) (number : ℕ) (e : Ending) → IsFirstSought s endings number e
    → All (λ x. IsLookedFor s x → ⊥) endings → ⊥
first_is_sought s endings number e first none =
    none _ e first.within (subst (IsLookedFor s) (sym first.there) first.sought)

-- where all is well nothing endless is known
no_end : (t : SearchTarget) (l : Liveness) → EndsForSure l → HasNoEnd t l → ⊥
no_end t l sure stuck = stuck.1 sure.none

no_round : (t : SearchTarget) (l : Liveness) (c : FairCycle) → EndsForSure l → GoesRound t l c → ⊥
no_round t l c sure round = let fair = sure.fair in let goes = round.1 in absurd cc

pub well_has_none : (s : Sought) (t : SearchTarget) (all : Ended Ending) → AreAllWell s all → HasNoEndless t all.liveness
well_has_none s t all well l is =
    let there = well.sure.live.1 in
    let same : well.sure.live.0 ≡ l = cc in
    let sure : EndsForSure l = subst EndsForSure same well.sure.live.2 in
    (no_end t l sure, λ c. no_round t l c sure)

-- that a first one is looked for leaves the status at 1, and so do what isn't well and what isn't allowed
pub status_1 : (s : Search) (w : WholeSearch) → (AreAllWell s.sought w.all × (allows s.allow_races w.racing ≡ true) → ⊥) → IsStatusOf s w 1
status_1 s w none = record {
  well = ((λ one. absurd (omega (arith, one))), (λ well. absurd (none well)));
  statuses = omega arith;
}

pub status_0 : (s : Search) (w : WholeSearch) → AreAllWell s.sought w.all → allows s.allow_races w.racing ≡ true → IsStatusOf s w 0
status_0 s w well allowed = record { well = ((λ _. (well, allowed)), (λ _. refl)); statuses = omega arith }
