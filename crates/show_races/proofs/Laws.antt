-- What is found of the races of a run, from what is told of all of them.
use Rattle.std.proofs.Common.{ℕ, zero, suc, ◌≡◌, ◌≤◌, ◌<◌, ◌+◌, Bool, true, false, List, [], ◌∷◌, ◌++◌, All}
use Rattle.std.proofs.Common.{Contains, length, get_or, inl, inr, ap, refl, subst, arith}
use Rattle.std.proofs.lemmas.Bool.{cases_lt}
use Rattle.std.proofs.lemmas.List.Elements.{All-contains, Contains-get_or}
use Rattle.std.proofs.lemmas.List.{length-append}
use Rattle.allowed_races.specs.declared.allowed.Allowed.{Allowed}
use Rattle.types.specs.declared.event.Entry.{Entry}
use Rattle.race_history.specs.declared.access.Site.{Site}
use Rattle.race_history.specs.declared.race.Race.{Race}
use Rattle.race_history.specs.Races.{AreRaces, HasEach, IsCut, IsLastRace, IsRaceOf}
use Rattle.show_rows.specs.declared.listing.Shown.{Shown}
use Rattle.show_races.specs.Sites.{site_at, sites_before}
use Rattle.show_races.specs.Told.{HasNoRace, IsWithin}

-- each entry has an instruction
pub sites_length : (allowed : Allowed) (shown : Shown) (n : ℕ) → length (sites_before allowed shown n) ≡ n
sites_length allowed shown zero = refl
sites_length allowed shown (suc n) =
    omega (arith, sites_length allowed shown n, length-append (sites_before allowed shown n) (site_at allowed shown n ∷ []))

pub one_longer : (told : List Race) (x : Race) → length (told ++ x ∷ []) ≡ length told + 1
one_longer told x = length-append told (x ∷ [])

-- what is known of a log and its instructions is known of the same ones by another name
pub carried : (P : List Entry → List Site → Type 0) (l m : List Entry) (j k : List Site) → l ≡ m → j ≡ k → P l j → P m k
carried P l m j k same alike p = subst (P m) alike (subst (λ (x : List Entry). P x j) same p)

module _ (log : List Entry) (sites : List Site) (opening : ℕ) where
  -- some of the races are races
  pub some_races : (all told : List Race) → AreRaces log sites opening all → All (Contains all) told → AreRaces log sites opening told
  some_races all told races from r has = races r (All-contains (Contains all) told r from has)

  -- both entries of a race are entries of the log
  pub races_within : (told : List Race) → AreRaces log sites opening told → All (IsWithin log) told
  races_within told races k d lt =
      let race = (races (get_or told k d) (Contains-get_or told k d lt)).is.racing in
      (race.made.entered.within, race.met.entered.within)

  -- where they are fewer than were asked for, they are all
  pub each_below : (pairs : List Race) (is_cut : Bool) (most : ℕ) → (is_cut ≡ false → HasEach log sites opening pairs)
      → (is_cut ≡ true → IsCut log sites opening pairs most) → length pairs < most → HasEach log sites opening pairs
  each_below pairs false most whole some few = whole refl
  each_below pairs true most whole some few = absurd (omega (arith, few, (some refl).full))

  -- where none is told though there is room for one, there is none
  pub no_race : (all told : List Race) (is_cut : Bool) (most : ℕ) → 1 ≤ most
      → (is_cut ≡ false → HasEach log sites opening all) → (is_cut ≡ true → IsCut log sites opening all most)
      → (1 ≤ length all → 1 ≤ length told) → told ≡ [] → HasNoRace log sites opening
  no_race [] told false most room each cut some is first second a b racing =
      absurd (omega (arith, (each refl first second a b racing).named.1))
  no_race [] told true most room each cut some is first second a b racing =
      absurd (omega (arith, room, (cut refl).full))
  no_race (r ∷ all) told is_cut most room each cut some is first second a b racing =
      absurd (omega (arith, some (omega arith), ap length is))

  -- a race is that of its second entry with the last one that makes the same access as its first
  one_last : (first : ℕ) (s : Race) (t : IsLastRace log sites opening s) → IsRaceOf log sites opening (record { first = first; second = s.second }) t.a t.b
      → record { first = first; second = s.second } ≡ s
  one_last first s t n =
      let here : first < s.second = n.racing.earlier in
      let there : s.first < s.second = t.is.racing.earlier in
      elim (cases_lt first s.first) [
        | inl before ↦ absurd (n.last s.first before there t.is.racing.made)
        | inr ge ↦ elim (cases_lt s.first first) [
          | inl after ↦ absurd (t.is.last first after here n.racing.made)
          | inr le ↦ let e : first ≡ s.first = omega arith in ap (λ (k : ℕ). record { first = k; second = s.second }) e
        ]
      ]

  -- where each race is named, those that could be are
  pub named_it : (all : List Race) → HasEach log sites opening all → (r : Race) → IsLastRace log sites opening r → Contains all r
  named_it all each r t =
      let n = each r.first r.second t.a t.b t.is.racing in
      subst (Contains all) (one_last n.first r t n.is) n.named
