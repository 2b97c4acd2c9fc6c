-- What is told of the races of a log and its instructions, also by other names of what it is told of.
use Rattle.std.proofs.Common.{ℕ, ◌≡◌, ◌≤◌, ◌<◌, Bool, true, false, List, [], ◌∷◌, Option, length, refl, subst, arith}
use Rattle.std.proofs.lemmas.List.Elements.{Contains-get_or}
use Rattle.allowed_races.specs.declared.allowed.Allowed.{Allowed}
use Rattle.types.specs.declared.event.Entry.{Entry}
use Rattle.types.specs.declared.parts.Parts.{Parts}
use Rattle.race_history.specs.declared.access.Site.{Site}
use Rattle.race_history.specs.declared.race.Race.{Race}
use Rattle.race_history.specs.Races.{AreRaces}
use Rattle.show_rows.specs.declared.rows.Row.{Row}
use Rattle.show_races.specs.Sites.{opening_of, sites_in}
use Rattle.show_races.specs.Told.{HasNoRace}
use Rattle.show_races.specs.Races.{Says}

-- what is so of a log and its instructions is so of the same log, the same module and the same rows
pub told_of : (Is : List Entry → List Site → ℕ → Type 0) (allowed : Allowed) (l k : List Entry) (m n : Parts) (rows others : List (Option Row))
    → l ≡ k → m ≡ n → rows ≡ others → Is l (sites_in allowed m rows l (length l)) (opening_of m)
    → Is k (sites_in allowed n others k (length k)) (opening_of n)
told_of Is allowed l k m n rows others log parts alike is =
    subst (λ (x : List (Option Row)). Is k (sites_in allowed n x k (length k)) (opening_of n)) alike
    (subst (λ (x : Parts). Is k (sites_in allowed x rows k (length k)) (opening_of x)) parts
    (subst (λ (x : List Entry). Is x (sites_in allowed m rows x (length x)) (opening_of m)) log is))

-- the instructions of the same entries, in the same module, by the same rows
pub sites_alike : (allowed : Allowed) (l k : List Entry) (m n : Parts) (rows others : List (Option Row)) → l ≡ k → m ≡ n → rows ≡ others
    → sites_in allowed m rows l (length l) ≡ sites_in allowed n others k (length k)
sites_alike allowed l k m n rows others log parts alike =
    told_of (λ _ sites _. sites_in allowed m rows l (length l) ≡ sites) allowed l k m n rows others log parts alike refl

-- where there are pairs one of them is a race, and else there is none
pub says_by : (log : List Entry) (sites : List Site) (opening : ℕ) (pairs : List Race) (is_racy : Bool) → AreRaces log sites opening pairs
    → (pairs ≡ [] → HasNoRace log sites opening) → (is_racy ≡ true → 1 ≤ length pairs) → (is_racy ≡ false → length pairs < 1)
    → Says log sites opening is_racy
says_by log sites opening [] true races none some few = let one = some refl in absurd (omega (arith, one))
says_by log sites opening (r ∷ pairs) true races none some few = (r, races r (Contains-get_or (r ∷ pairs) 0 r (omega arith)))
says_by log sites opening [] false races none some few = none refl
says_by log sites opening (r ∷ pairs) false races none some few = let no = few refl in absurd (omega (arith, no))
