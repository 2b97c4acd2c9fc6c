-- What is found of all runs and their races, and kept: the parts put together.
use Rattle.std.proofs.Common.{ℕ, ◌≡◌, ◌≤◌, ◌∙◌, ◌&&◌, not, Bool, true, false, List, Option, inl, inr, refl, sym, subst, true≢false}
use Rattle.std.specs.Prelude.{is_some}
use Rattle.std.proofs.lemmas.Bool.{and_left, and_right, not_from_true}
use Rattle.allowed_races.specs.declared.allowed.Allowed.{Allowed}
use Rattle.types.specs.declared.parts.Parts.{Parts}
use Rattle.spawn_host.specs.Requests.{Requested}
use Rattle.search_modules.specs.Endings.{HasEveryEnding, AllCanEndSo}
use Rattle.search_modules.specs.Races.{NeverRaces}
use Rattle.report_command.specs.declared.search.Search.{Search}
use Rattle.report_jobs.specs.Asked.{IsAskedBy}
use Rattle.report_jobs.specs.Prints.{change}
use Rattle.report_telling.specs.Racing.{allows}
use Rattle.report_telling.specs.declared.racing.Racing.{Racing}
use Rattle.report_telling.specs.declared.racing.Racing.TheVariants.{Unasked, Never, OnlyBehindTimeouts, Found, Unknown}
use Rattle.report_telling.specs.declared.found.WholeSearch.{WholeSearch}
use Rattle.report_finds.specs.Sought.{IsStatusOf, stops_behind}
use Rattle.report_finds.specs.Racing.{IsAsked, IsKnownOf, IsWhole, keeps_race}
use Rattle.report.specs.Searches.{EndWell, Finds, IsRaceKept, IsSureToEnd, KeepsNoneOrRace}
use Rattle.report.proofs.Sure.{every_by, can_by, sure_by}

-- one of two that isn't so
pub and_none : (x : Bool) {y : Bool} → y ≡ false → (x && y) ≡ false
and_none true none = none
and_none false none = refl

-- where all may be well with races that aren't allowed, no run has one
pub never_by : (q : Requested) (s : Search) (may : Allowed) (allow : Bool) (racing : Racing) → IsKnownOf q may racing → IsAsked s racing
    → allows allow racing ≡ true → allow ≡ false → s.every_order ≡ false → NeverRaces q.parts q.name q.args may
never_by q s may true racing known asked allowed never every = absurd (true≢false never)
never_by q s may false Unasked known asked allowed never every = absurd (true≢false (sym (asked.1 refl) ∙ every))
never_by q s may false Never known asked allowed never every = known.0
never_by q s may false OnlyBehindTimeouts known asked allowed never every = known.0
never_by q s may false (Found r) known asked allowed never every = absurd (true≢false (sym allowed))
never_by q s may false Unknown known asked allowed never every = absurd (true≢false (sym allowed))

-- what status 0 says
pub well_by : (q : Requested) (s : Search) (may : Allowed) → IsAskedBy s.call q → (w : WholeSearch) → IsWhole q s may w → (status : ℕ)
    → IsStatusOf s w status → status ≡ 0 → EndWell q.parts s may
well_by q s may asked w whole status is zero =
    let dump = s.sought.dump in
    let both = is.well.0 zero in
    let well = both.0 in
    let endings = w.all.endings.keys in
    let every = every_by q may dump w.is_free w.all whole.complete well.sure.are_all in
    let can = can_by q may dump w.is_free w.all whole.complete in
    let sure = sure_by q may dump w.is_free w.all whole.complete well.sure in
    record {
      args = q.args;
      spelled = asked.spelled;
      endings = endings;
      every = subst (λ (name : List ℕ). HasEveryEnding q.parts name q.args dump endings) asked.name_is every;
      can = subst (λ (name : List ℕ). AllCanEndSo q.parts name q.args dump endings) asked.name_is can;
      some = well.some;
      well = well.well;
      unsought = well.unsought;
      sure = subst (λ (name : List ℕ). IsSureToEnd q.parts name q.args dump) asked.name_is sure;
      free = λ never every_order. subst (λ (name : List ℕ). NeverRaces q.parts name q.args may) asked.name_is
          (never_by q s may s.allow_races w.racing whole.known whole.asked both.1 never every_order);
    }

-- either the race is kept, or what is found behind
module _ (m : Parts) (s : Search) (may : Allowed) (a b c : Option (List ℕ)) (status : ℕ) where
  pub finds_race : c ≡ b → KeepsNoneOrRace m s may (change a b) → status ≤ 1 → Finds m s may (change a c) status
  finds_race same (inl none) few = inl (few, same ∙ none)
  finds_race same (inr kept) few = inr (inr (few, subst (λ (x : Option (List ℕ)). IsRaceKept m s may (change a x)) (sym same) kept))

  pub finds_behind : b ≡ a → Finds m s may (change b c) status → Finds m s may (change a c) status
  finds_behind same found = subst (λ (x : Option (List ℕ)). Finds m s may (change x c) status) same found

  pub finds_all : (races : Bool) → s.races ≡ races → (keeps_race s ≡ false → b ≡ a) → (stops_behind s ≡ false → c ≡ b)
      → KeepsNoneOrRace m s may (change a b) → Finds m s may (change b c) status → status ≤ 1 → Finds m s may (change a c) status
  finds_all true is unkept quiet kept found few =
      finds_race (quiet (and_right s.sought.stops (not s.races) (not_from_true s.races is))) kept few
  finds_all false is unkept quiet kept found few = finds_behind (unkept (and_left s.races (is_some s.save) is)) found
