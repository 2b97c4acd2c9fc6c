-- The settled states that come next, and what they show of a search. Types: as in Threads, and O for endings.
use Rattle.std.specs.Prelude.{ℕ, ◌≡◌, List, Contains, Option, Some}
use Rattle.schedule.specs.System.{Want.Turns, Want.Calls, System, State}
use Rattle.schedule.specs.Scheduled.{after_event}
use Rattle.search_settled.specs.declared.flat.RestingState.{RestingState}
use Rattle.search_reach.specs.declared.explores.NextState.{NextState}
use Rattle.search_reach.specs.Search.{Ascend}
use Rattle.search_settled.specs.Settled.{ComesToRest, ComesToRestBy, IsReached}
use Rattle.search_settled.specs.Threads.{ThreadSystem, IsFlat}

module _ {X T E V A G H M : Type 0} (k : ThreadSystem X T E V A G H M) where
  -- It stands for each state that can be reached and comes to rest in one that it is; each thread makes so many turns.
  pub record StandsForState (c : RestingState G H) (w : State X T) (turns : ℕ → ℕ) : Type 0 where
    pub reached : IsReached k.system k.first w
    pub settled : State X T
    pub rest : ComesToRestBy k.system turns w settled
    pub settled_is : IsFlat k c settled

  -- It is where all come to rest in the beginning.
  pub record IsBeginning (c : RestingState G H) : Type 0 where
    pub settled : State X T
    pub rest : ComesToRest k.system k.first settled
    pub settled_is : IsFlat k c settled

  -- It is a settled state that can be reached.
  pub record IsAt (c : RestingState G H) (z : State X T) : Type 0 where
    pub reached : IsReached k.system k.first z
    pub settled_is : IsFlat k c z

  abbrev pub IsSomewhere : RestingState G H → Type 0
  IsSomewhere c = (z : State X T) × IsAt c z

  -- It is where all come to rest after an event of thread n.
  pub record IsNextBy (z : State X T) (n : ℕ) (e : E) (x : RestingState G H) : Type 0 where
    pub settled : State X T
    pub rest : ComesToRest k.system (after_event k.system z n e) settled
    pub settled_is : IsFlat k x settled

  -- There is an event after which it is stuck.
  abbrev pub IsStuckAfter : (State X T → Type 0) → RestingState G H → Type 0
  IsStuckAfter stuck c = (z : State X T) → IsAt c z
      → (n : ℕ) × (e : E) × (k.system.wants (z.threads n) ≡ Calls e) × stuck (after_event k.system z n e)

  -- The next state is of a thread that makes an event there.
  pub record IsNextOf (z : State X T) (x : NextState (RestingState G H)) : Type 0 where
    pub event : E
    pub wants : k.system.wants (z.threads x.thread) ≡ Calls event
    pub next : IsNextBy z x.thread event x.state

  -- For each thread that wants an event there is one of these, and each of these is of such a thread, in their order.
  pub record HasNext (c : RestingState G H) (xs : List (NextState (RestingState G H))) : Type 0 where
    pub all : (z : State X T) → IsAt c z → (n : ℕ) (e : E) → k.system.wants (z.threads n) ≡ Calls e
        → (x : NextState (RestingState G H)) × Contains xs x × (x.thread ≡ n) × IsNextBy z n e x.state
    pub sound : (z : State X T) → IsAt c z → (x : NextState (RestingState G H)) → Contains xs x → IsNextOf z x
    pub ascend : Ascend xs

  -- This is how it has ended, if it has.
  pub record HasEnded {O : Type 0} (ends : State X T → O → Type 0) (c : RestingState G H) (r : Option O) : Type 0 where
    pub all : (z : State X T) (o : O) → IsAt c z → ends z o → r ≡ Some o
    pub sound : (z : State X T) (o : O) → IsAt c z → r ≡ Some o → ends z o

-- In such an end nobody wants a turn of its own.
abbrev pub NobodyTurns : {X T E V A O : Type 0} → System X T E V A → (State X T → O → Type 0) → Type 0
NobodyTurns s ends = (w : State _ _) (o : _) → ends w o → (m : ℕ) → s.wants (w.threads m) ≡ Turns → ⊥

-- The beginning alone.
abbrev pub IsFirstOf : {W : Type 0} → W → W → Type 0
IsFirstOf first w = w ≡ first
