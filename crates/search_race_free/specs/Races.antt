-- Races of all runs.
use Rattle.std.specs.Prelude.{ℕ, ◌≡◌, ◌≢◌, ◌⊎◌, Some}
use Rattle.schedule.specs.System.{System, State}
use Rattle.search_graph.specs.Paths.{Reaches}
use Rattle.search_settled.specs.Settled.{IsReached}
use Rattle.search_settled.specs.declared.access.NextAccess.{NextAccess}
use Rattle.search_settled.specs.Accesses.{IsPlain, Conflict, Race, WritesOver}
use Rattle.search_race_free.specs.Orders.{StepsPlainly, StepsWithout}
use Rattle.search_race_free.specs.Wanted.{next_access, after_next}

module _ {X T E V A : Type 0} (s : System X T E V A) (first : State X T) (accesses : X → T → E → NextAccess) where
  -- A run comes to z on which the thread made this plain access, and since then nothing that isn't plain.
  pub record HasMade (one : ℕ) (access : NextAccess) (z : State X T) : Type 0 where
    pub before : State X T
    pub reached : IsReached s first before
    pub wanted : next_access s accesses before one ≡ Some access
    pub plain : IsPlain access
    pub since : Reaches (StepsPlainly (next_access s accesses) (after_next s) one) (after_next s before one) z

  -- One thread makes a plain access, and later, when it has made nothing since that isn't plain, another wants an
  -- access that conflicts with it.
  pub record CanRace (one other : ℕ) : Type 0 where
    pub differ : other ≢ one
    pub state : State X T
    pub access : NextAccess
    pub made : HasMade one access state
    pub next : NextAccess
    pub wanted : next_access s accesses state other ≡ Some next
    pub conflict : Conflict next access

  -- Two threads come to where their next accesses race.
  pub record MeetInRace (one other : ℕ) : Type 0 where
    pub differ : other ≢ one
    pub state : State X T
    pub reached : IsReached s first state
    pub access : NextAccess
    pub wanted : next_access s accesses state one ≡ Some access
    pub next : NextAccess
    pub wanted_next : next_access s accesses state other ≡ Some next
    pub race : Race access next

  -- A run comes to z on which another thread's access wrote over what this one would write, and since then the thread
  -- made no turn.
  pub record WasWrittenOver (one : ℕ) (access : NextAccess) (z : State X T) : Type 0 where
    pub before : State X T
    pub reached : IsReached s first before
    pub wanted : next_access s accesses before one ≡ Some access
    pub by : ℕ
    pub differ : by ≢ one
    pub over : NextAccess
    pub wanted_over : next_access s accesses before by ≡ Some over
    pub writes : WritesOver over access
    pub since : Reaches (StepsWithout (next_access s accesses) (after_next s) one) (after_next s before by) z

  -- What one thread would write, by an access that may not where it finds something else, is written over, and later, when
  -- it has made no turn since, another wants an access that races with it.
  pub record IsWrittenOver (one other : ℕ) : Type 0 where
    pub differ : other ≢ one
    pub state : State X T
    pub access : NextAccess
    pub was : WasWrittenOver one access state
    pub next : NextAccess
    pub wanted : next_access s accesses state other ≡ Some next
    pub race : Race access next

  abbrev pub HasRace : ℕ → ℕ → Type 0
  HasRace one other = CanRace one other ⊎ MeetInRace one other ⊎ IsWrittenOver one other

  -- No two threads race in any run.
  abbrev pub NoneRace : Type 0
  NoneRace = (one other : ℕ) → HasRace one other → ⊥
