-- The run of one thread: steps that fit, one after the other, until it is gone.
use Rattle.std.specs.Prelude.{ℕ, suc, ◌≡◌, ◌⊎◌, Bool, true, false, List, [], ◌∷◌}
use Rattle.schedule.specs.System.{Want.Turns, Want.Calls, Want.Awaits, Want.Gone, Act, Act.Made, Act.Heard, Step}
use Rattle.schedule.specs.System.{Step.Own, Step.Lost, Step.Full, Step.Acts, System}

module _ {E V A : Type 0} where
  -- The acts among the steps, which are the thread's entries in a history.
  abbrev pub acts : List (Step E V A) → List (Act E V A)
  acts [] = []
  acts (Own ∷ steps) = acts steps
  acts (Lost e ∷ steps) = acts steps
  acts (Full e ∷ steps) = acts steps
  acts (Acts a ∷ steps) = a ∷ acts steps

  -- The steps after the first act.
  abbrev pub after_first_act : List (Step E V A) → List (Step E V A)
  after_first_act [] = []
  after_first_act (Own ∷ steps) = after_first_act steps
  after_first_act (Lost e ∷ steps) = after_first_act steps
  after_first_act (Full e ∷ steps) = after_first_act steps
  after_first_act (Acts a ∷ steps) = steps

  -- How many tries are lost before the first act, and that one of them was of this event.
  abbrev pub losses : List (Step E V A) → ℕ
  losses [] = 0
  losses (Own ∷ steps) = losses steps
  losses (Lost e ∷ steps) = suc (losses steps)
  losses (Full e ∷ steps) = losses steps
  losses (Acts a ∷ steps) = 0

  abbrev pub IsLost : E → List (Step E V A) → Type 0
  IsLost e [] = ⊥
  IsLost e (Own ∷ steps) = IsLost e steps
  IsLost e (Lost x ∷ steps) = (x ≡ e) ⊎ IsLost e steps
  IsLost e (Full x ∷ steps) = IsLost e steps
  IsLost e (Acts a ∷ steps) = ⊥

  -- Whether a try before the first act found the log full.
  abbrev pub found_full : List (Step E V A) → Bool
  found_full [] = false
  found_full (Own ∷ steps) = found_full steps
  found_full (Lost e ∷ steps) = found_full steps
  found_full (Full e ∷ steps) = true
  found_full (Acts a ∷ steps) = false

  -- How many tries are lost between neighbouring acts, before the first and after the last, where so many were lost
  -- already.
  abbrev pub losses_from : ℕ → List (Step E V A) → List ℕ
  losses_from count [] = count ∷ []
  losses_from count (Own ∷ steps) = losses_from count steps
  losses_from count (Lost e ∷ steps) = losses_from (suc count) steps
  losses_from count (Full e ∷ steps) = losses_from count steps
  losses_from count (Acts a ∷ steps) = count ∷ losses_from 0 steps

  abbrev pub losses_between : List (Step E V A) → List ℕ
  losses_between steps = losses_from 0 steps

module _ {X T E V A : Type 0} (s : System X T E V A) where
  -- The thread after a step.
  abbrev pub after_step : T → Step E V A → T
  after_step t Own = s.own_turn t
  after_step t (Lost e) = s.lost t
  after_step t (Full e) = s.full t
  after_step t (Acts (Made e v)) = s.takes t v
  after_step t (Acts (Heard a)) = s.hears t a

  -- The step is one that the thread may make: it wants what the step does.
  abbrev pub Fits : T → Step E V A → Type 0
  Fits t Own = s.wants t ≡ Turns
  Fits t (Lost e) = (s.wants t ≡ Calls e) × (s.may_lose t ≡ true)
  Fits t (Full e) = (s.wants t ≡ Calls e) × (s.may_fill t ≡ true)
  Fits t (Acts (Made e v)) = s.wants t ≡ Calls e
  Fits t (Acts (Heard a)) = s.wants t ≡ Awaits

  -- The thread runs by these steps to this end, where it is gone.
  abbrev pub IsThreadRun : T → List (Step E V A) → T → Type 0
  IsThreadRun t [] end = (s.wants t ≡ Gone) × (t ≡ end)
  IsThreadRun t (p ∷ steps) end = Fits t p × IsThreadRun (after_step t p) steps end

  -- The thread comes to another by these steps.
  abbrev pub Reaches : T → List (Step E V A) → T → Type 0
  Reaches t [] end = t ≡ end
  Reaches t (p ∷ steps) end = Fits t p × Reaches (after_step t p) steps end

  -- The thread leaves next, and loses no try of it; or it gives up first, by a turn of its own.
  abbrev pub IsLeaving : E → T → Type 0
  IsLeaving leave t = (s.wants t ≡ Calls leave) × (s.may_lose t ≡ false)

  abbrev pub IsGivingUp : E → T → Type 0
  IsGivingUp leave t = (s.wants t ≡ Turns) × IsLeaving leave (s.own_turn t)

  -- What is asked of the threads of a system.
  pub record Laws : Type 0 where
    -- a thread whose question is open awaits its answer
    pub opened : (t : T) (e : E) (v : V) → s.wants t ≡ Calls e → s.opens e v ≡ true → s.wants (s.takes t v) ≡ Awaits
    -- only who wants an event loses a try or finds the log full
    pub lose_calls : (t : T) → s.may_lose t ≡ true → (e : E) × (s.wants t ≡ Calls e)
    pub fill_calls : (t : T) → s.may_fill t ≡ true → (e : E) × (s.wants t ≡ Calls e)
    -- a turn of its own leaves no thread gone
    pub own_stays : (t : T) → s.wants t ≡ Turns → s.wants (s.own_turn t) ≡ Gone → ⊥
    -- the event by which threads leave
    pub leave : E
    -- who lost a try wants the same again, or gives up
    pub lost_again : (t : T) (e : E) → s.may_lose t ≡ true → s.wants t ≡ Calls e → (s.wants (s.lost t) ≡ Calls e)
        ⊎ IsGivingUp leave (s.lost t)
    -- who found the log full leaves, and a leave never finds it full
    pub full_leaves : (t : T) → s.may_fill t ≡ true → IsLeaving leave (s.full t)
    pub leave_fills : (t : T) → s.may_fill t ≡ true → s.wants t ≡ Calls leave → ⊥
