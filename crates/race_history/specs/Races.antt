-- Races.
use Rattle.std.specs.Prelude.{ℕ, ◌≡◌, ◌⊎◌, ◌<◌, true, List, length, AllPairs, Contains}
use Rattle.types.specs.declared.event.Entry.{Entry}
use Rattle.race_history.specs.declared.access.ThreadAccess.{ThreadAccess}
use Rattle.race_history.specs.declared.access.Site.{Site}
use Rattle.race_history.specs.declared.race.Race.{Race}
use Rattle.race_history.specs.Accesses.{Meet, AreMatched}
use Rattle.race_history.specs.Places.{IsAccess}
use Rattle.race_history.specs.Order.{IsBefore}

-- Two accesses of two threads that touch a byte of one location in common, one of them a write, and that aren't both
-- atomic of exactly the same bytes. So a bounds check's look conflicts with a memory.grow that succeeded; those who enter
-- lists of waiters or count threads never conflict.
pub record Conflict (a b : ThreadAccess) : Type 0 where
  pub threads : a.thread ≡ b.thread → ⊥
  pub meet : Meet a b
  pub write : (a.writes ≡ true) ⊎ (b.writes ≡ true)
  pub unmatched : AreMatched a b → ⊥

-- These accesses, at two places in order, race: they conflict, and the first doesn't happen before the second. (No edge
-- leads back, so the second never happens before the first.)
pub record AreRacing (log : List Entry) (sites : List Site) (opening first second : ℕ) (a b : ThreadAccess) : Type 0 where
  pub earlier : first < second
  pub made : IsAccess log sites opening first a
  pub met : IsAccess log sites opening second b
  pub conflict : Conflict a b
  pub unordered : IsBefore log sites opening first second → ⊥

-- Two entries race by these accesses, and none between them makes the same access as the first. That is one of the same
-- thread, to the same bytes of one location, that reads and writes alike, and, of bytes, at the same place in the code.
pub record IsRaceOf (log : List Entry) (sites : List Site) (opening : ℕ) (r : Race) (a b : ThreadAccess) : Type 0 where
  pub racing : AreRacing log sites opening r.first r.second a b
  pub last : (k : ℕ) → r.first < k → k < r.second → IsAccess log sites opening k a → ⊥

pub record IsLastRace (log : List Entry) (sites : List Site) (opening : ℕ) (r : Race) : Type 0 where
  pub a : ThreadAccess
  pub b : ThreadAccess
  pub is : IsRaceOf log sites opening r a b

-- Each pair that is named races.
abbrev pub AreRaces : List Entry → List Site → ℕ → List Race → Type 0
AreRaces log sites opening pairs = (r : Race) → Contains pairs r → IsLastRace log sites opening r

-- By the second entry, and those of one second entry by the first.
abbrev pub IsEarlier : Race → Race → Type 0
IsEarlier r s = (r.second < s.second) ⊎ ((r.second ≡ s.second) × (r.first < s.first))

-- In order, and no pair is named twice.
abbrev pub AreInOrder : List Race → Type 0
AreInOrder pairs = AllPairs IsEarlier pairs

-- A race by these accesses is named, of the second entry with the last one before it that makes the first access.
pub record IsNamed (log : List Entry) (sites : List Site) (opening : ℕ) (pairs : List Race) (a b : ThreadAccess)
    (second : ℕ) : Type 0 where
  pub first : ℕ
  pub is : IsRaceOf log sites opening (record { first = first; second = second }) a b
  pub named : Contains pairs (record { first = first; second = second })

-- Whenever an entry races with an earlier one, that is named. So of each two places in the code whose accesses race, two
-- entries are named, if not each.
abbrev pub HasEach : List Entry → List Site → ℕ → List Race → Type 0
HasEach log sites opening pairs = (first second : ℕ) (a b : ThreadAccess) → AreRacing log sites opening first second a b
    → IsNamed log sites opening pairs a b second

-- Just so many are named, and there are more: no pair that could be named and isn't comes before one that is.
pub record IsCut (log : List Entry) (sites : List Site) (opening : ℕ) (pairs : List Race) (most : ℕ) : Type 0 where
  pub full : length pairs ≡ most
  pub more : (r : Race) × (IsLastRace log sites opening r × (Contains pairs r → ⊥))
  pub first : (r : Race) → IsLastRace log sites opening r → Contains pairs r ⊎ ((s : Race) → Contains pairs s → IsEarlier s r)
