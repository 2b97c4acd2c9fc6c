-- Races of all runs, and next accesses that race.
use Rattle.std.specs.Prelude.{ℕ}
use Rattle.schedule.specs.System.{System, State}
use Rattle.search_settled.specs.Settled.{AreTame}
use Rattle.search_settled.specs.declared.access.NextAccess.{NextAccess}
use Rattle.search_race_free.specs.Wanted.{ArePlain}
use Rattle.search_race_free.specs.Races.{CanRace, MeetInRace}

-- Where nowhere two next accesses race, no next access conflicts with a plain one before it.
abbrev pub RacesMeet : (X T E V A : Type 0) → Type 0
RacesMeet X T E V A =
    (s : System X T E V A) (first : State X T) (accesses : X → T → E → NextAccess) (most : ℕ)
    → AreTame s first most → ArePlain s accesses first
    → ((one other : ℕ) → MeetInRace s first accesses one other → ⊥) → (one other : ℕ) → CanRace s first accesses one other → ⊥
