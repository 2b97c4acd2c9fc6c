-- How many events a run of turns has. Types: as in Threads.
use Rattle.std.specs.Prelude.{ℕ, Bool, true, false, List}
use Rattle.schedule.specs.System.{Want, Want.Turns, Want.Calls, Want.Awaits, Want.Gone, System, State}
use Rattle.search_reach.specs.Levels.{Comes}
use Rattle.search_reach.specs.Search.{HasEqual}
use Rattle.search_settled.specs.Settled.{turning}

-- It wants no event: its next turn is one of its own, or none.
abbrev pub wants_none : {E : Type 0} → Want E → Bool
wants_none Turns = true
wants_none (Calls e) = false
wants_none Awaits = true
wants_none Gone = true

module _ {X T E V A : Type 0} (s : System X T E V A) where
  abbrev pub makes_none : State X T → ℕ → Bool
  makes_none w n = wants_none (s.wants (w.threads n))

  -- Turns lead from w to z, of which at most so many are events.
  abbrev pub ComesWithin : ℕ → State X T → State X T → Type 0
  ComesWithin events w z = (turns : ℕ) × Comes (turning s) makes_none turns events w z

  -- However threads have ended that come there from the first state by at most so many events, the list has it.
  abbrev pub HasEndsBehind : {O : Type 0} → State X T → (State X T → O → Type 0) → (O → O → Bool) → List O → ℕ → Type 0
  HasEndsBehind first ends eq es events =
      (z : State X T) (o : _) → ComesWithin events first z → ends z o → HasEqual eq es o
