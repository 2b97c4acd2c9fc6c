-- Settled states: no thread wants a turn of its own. Types: shared states X, threads T, events E, replies V and answers
-- A.
use Rattle.std.specs.Prelude.{ℕ, zero, suc, ◌≡◌, ◌≢◌, ◌≤◌, ◌⊎◌, Some}
use Rattle.schedule.specs.System.{Want.Turns, Want.Calls, Want.Awaits, Want.Gone, Kind.Turn, System, State}
use Rattle.schedule.specs.Scheduled.{after_mark}
use Rattle.search_graph.specs.Paths.{Reaches}
use Rattle.search_graph.specs.Worlds.{Worlds}

module _ {X T E V A : Type 0} (s : System X T E V A) where
  -- By so many turns of its own a thread comes to another.
  abbrev pub ComesTo : ℕ → T → T → Type 0
  ComesTo zero t u = t ≡ u
  ComesTo (suc count) t u = (s.wants t ≡ Turns) × ComesTo count (s.own_turn t) u

  -- It makes so many turns of its own, whatever it makes then.
  pub record MakesTurns (count : ℕ) (t : T) : Type 0 where
    pub last : T
    pub comes : ComesTo count t last

  -- It comes to one that wants no turn of its own.
  pub record Settles (t u : T) : Type 0 where
    pub turns : ℕ
    pub comes : ComesTo turns t u
    pub rests : s.wants u ≡ Turns → ⊥

  -- Each thread does, and what is shared is the same.
  pub record ComesToRest (w z : State X T) : Type 0 where
    pub shared : w.shared ≡ z.shared
    pub each : (m : ℕ) → Settles (w.threads m) (z.threads m)

  -- Each thread does by so many turns.
  pub record ComesToRestBy (turns : ℕ → ℕ) (w z : State X T) : Type 0 where
    pub shared : w.shared ≡ z.shared
    pub comes : (m : ℕ) → ComesTo (turns m) (w.threads m) (z.threads m)
    pub rests : (m : ℕ) → s.wants (z.threads m) ≡ Turns → ⊥

  -- It can go on: it wants a turn of its own or an event.
  abbrev pub CanGoOn : State X T → ℕ → Type 0
  CanGoOn w n = (s.wants (w.threads n) ≡ Turns) ⊎ ((e : E) × (s.wants (w.threads n) ≡ Calls e))

  -- The states, between which threads make turns.
  abbrev pub turning : Worlds (State X T)
  turning = record { steps = λ n w z. z ≡ after_mark s w n Turn; can = CanGoOn }

  -- One step: a turn of one thread.
  abbrev pub StepsBy : State X T → State X T → Type 0
  StepsBy w z = (n : ℕ) × (z ≡ after_mark s w n Turn)

  -- An event gives an answer to its own thread, or to one that awaits it.
  abbrev pub AnswersFit : State X T → Type 0
  AnswersFit w =
      (n m : ℕ) (e : E) (a : A) → s.wants (w.threads n) ≡ Calls e → s.gives w.shared n e m ≡ Some a → m ≢ n
      → s.wants (w.threads m) ≡ Awaits

  -- An event starts only a thread that isn't there.
  abbrev pub StartsFit : State X T → Type 0
  StartsFit w =
      (n m : ℕ) (e : E) (t : T) → s.wants (w.threads n) ≡ Calls e → s.starts w.shared n e m ≡ Some t
      → s.wants (w.threads m) ≡ Gone

  -- Only threads below a number make turns of their own.
  abbrev pub AreFew : ℕ → State X T → Type 0
  AreFew count w = (m : ℕ) → count ≤ m → s.wants (w.threads m) ≡ Turns → ⊥

  module _ (first : State X T) where
    abbrev pub IsReached : State X T → Type 0
    IsReached w = Reaches StepsBy first w

    -- It is so wherever the threads can come.
    pub record AreTame (count : ℕ) : Type 0 where
      pub answers : (w : State X T) → IsReached w → AnswersFit w
      pub starts : (w : State X T) → IsReached w → StartsFit w
      pub few : (w : State X T) → IsReached w → AreFew count w
