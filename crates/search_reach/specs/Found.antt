-- What a search found, by its verdict.
use Rattle.std.specs.Prelude.{ℕ, ◌≡◌, ◌<◌, Bool, List}
use Rattle.indexmap.specs.IndexSet.{IndexSet, index_set_len}
use Rattle.search_reach.specs.Search.{StepSystem, IsAll, IsSound, HasAllEnds, AreEnds, CanGetStuck}
use Rattle.search_reach.specs.declared.follows.Wish.{Wish}
use Rattle.search_reach.specs.declared.follows.Wish.TheVariants as wishes
use Rattle.search_reach.specs.declared.search.Verdict.{Verdict}
use Rattle.search_reach.specs.declared.search.Verdict.TheVariants as verdicts
use Rattle.search_reach.specs.declared.search.Exploration.{Exploration}
use Rattle.search_reach.specs.declared.ending.Ended as endings

-- What a search may claim: that a list has all that there is, that each of a list is right, and that something can come
-- to where nothing can be told.
pub record Claims (B : Type 0) : Type 1 where
  pub complete : List B → Type 0
  pub sound : List B → Type 0
  pub lost : Type 0

-- What a search found that met so many states, and was to meet no more than `most` and a few: its list is sound, and
-- its verdict says that the list is complete, that it met more than `most` states, that something can come to where
-- nothing can be told, or that the last wish was that it ends.
pub record IsFound {B : Type 0} (claims : Claims B) (most : ℕ) (wish : Wish) (verdict : Verdict) (states : ℕ)
    (found : List B) : Type 0 where
  pub all : verdict ≡ verdicts.All → claims.complete found
  pub sound : claims.sound found
  pub bound : verdict ≡ verdicts.TooMany → most < states
  pub gives_up : verdict ≡ verdicts.CannotTell → claims.lost
  pub told : verdict ≡ verdicts.Told → wish ≡ wishes.End

-- Of the states that it met.
abbrev pub AreStates : {S W E H : Type 0} → StepSystem S W E → ℕ → Wish → IndexSet S H → Verdict → Type 0
AreStates k most wish met verdict =
    IsFound (record { complete = IsAll k; sound = IsSound k; lost = CanGetStuck k }) most wish verdict
    (index_set_len met) met.keys

abbrev pub IsSearched : {S W E : Type 0} → StepSystem S W E → ℕ → Wish → Exploration S → Type 0
IsSearched k most wish found = AreStates k most wish found.met found.verdict

-- Of endings.
abbrev pub AreListed : {E : Type 0} → Claims E → ℕ → Wish → endings.Ended E → Type 0
AreListed claims most wish ended = IsFound claims most wish ended.verdict ended.states ended.endings.keys

-- Of the endings of a system, which are compared so.
abbrev pub AreEndings : {S W E : Type 0} → StepSystem S W E → (E → E → Bool) → ℕ → Wish → endings.Ended E → Type 0
AreEndings k eq = AreListed (record { complete = HasAllEnds k eq; sound = AreEnds k; lost = CanGetStuck k })
