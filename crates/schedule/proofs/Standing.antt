-- How a thread stands between a history's beginning and the rest of it, and what the induction over the history shows.
use Rattle.std.proofs.Common.{◌≡◌, ℕ, ◌⊎◌, inl, inr, Bool, true, false, List, [], ◌∷◌, ◌++◌, refl, Option, Some, None}
use Rattle.schedule.specs.System.{Want.Turns, Want.Calls, Want.Awaits, Want.Gone, Act, Act.Heard, Step, Step.Own}
use Rattle.schedule.specs.System.{Step.Lost, Step.Full, Step.Acts, Entry, Mark, System, State}
use Rattle.schedule.specs.ThreadRun.{IsThreadRun, Laws, IsGivingUp}
use Rattle.schedule.specs.Scheduled.{scheduled_run, entries_made, steps_made}
use Rattle.schedule.specs.Histories.{Place, Place.Unstarted, Place.Free, Place.Open, Place.Due, IsClosed}
use Rattle.schedule.specs.Histories.{without_answers, shared_after, places_after, IsOrdered}

module _ {X T E V A : Type 0} (s : System X T E V A) where
  -- The laws, and what follows of them.
  pub record Facts : Type 0 where
    pub opened : (t : T) (e : E) (v : V) → s.wants t ≡ Calls e → s.opens e v ≡ true → s.wants (s.takes t v) ≡ Awaits
    pub awaits_lose : (t : T) → s.wants t ≡ Awaits → s.may_lose t ≡ false
    pub awaits_fill : (t : T) → s.wants t ≡ Awaits → s.may_fill t ≡ false
    pub own_stays : (t : T) → s.wants t ≡ Turns → s.wants (s.own_turn t) ≡ Gone → ⊥
    pub lost_stays : (t : T) → s.may_lose t ≡ true → s.wants (s.lost t) ≡ Gone → ⊥
    pub full_stays : (t : T) → s.may_fill t ≡ true → s.wants (s.full t) ≡ Gone → ⊥
    pub lose_turns : (t : T) → s.may_lose t ≡ true → s.wants t ≡ Turns → ⊥
    pub fill_turns : (t : T) → s.may_fill t ≡ true → s.wants t ≡ Turns → ⊥
    pub leave : E
    pub full_leaves : (t : T) → s.may_fill t ≡ true → s.wants (s.full t) ≡ Calls leave
    pub full_loses : (t : T) → s.may_fill t ≡ true → s.may_lose (s.full t) ≡ false
    pub leave_fills : (t : T) → s.may_fill t ≡ true → s.wants t ≡ Calls leave → ⊥
    pub gone_lose : (t : T) → s.wants t ≡ Gone → s.may_lose t ≡ false
    pub gone_fill : (t : T) → s.wants t ≡ Gone → s.may_fill t ≡ false
    pub lost_again : (t : T) (e : E) → s.may_lose t ≡ true → s.wants t ≡ Calls e → (s.wants (s.lost t) ≡ Calls e) ⊎ IsGivingUp s leave (s.lost t)

  falsely : (b : Bool) → (b ≡ true → ⊥) → b ≡ false
  falsely true h = absurd (h refl)
  falsely false h = refl

  lost_not_gone : (leave : E) (t : T) (e : E) → (s.wants (s.lost t) ≡ Calls e) ⊎ IsGivingUp s leave (s.lost t) → s.wants (s.lost t) ≡ Gone → ⊥
  lost_not_gone leave t e (inl h) g = cc
  lost_not_gone leave t e (inr h) g = cc (h.0, g)

  pub facts : Laws s → Facts
  facts laws = record {
    opened = laws.opened;
    awaits_lose = λ t h. falsely (s.may_lose t) (λ k. let c = laws.lose_calls t k in cc (c.1, h));
    awaits_fill = λ t h. falsely (s.may_fill t) (λ k. let c = laws.fill_calls t k in cc (c.1, h));
    own_stays = laws.own_stays;
    lost_stays = λ t h g. let c = laws.lose_calls t h in lost_not_gone laws.leave t c.0 (laws.lost_again t c.0 h c.1) g;
    full_stays = λ t h g. let c = laws.full_leaves t h in cc (c.0, g);
    lose_turns = λ t h g. let c = laws.lose_calls t h in cc (c.1, g);
    fill_turns = λ t h g. let c = laws.fill_calls t h in cc (c.1, g);
    leave = laws.leave;
    full_leaves = λ t h. (laws.full_leaves t h).0;
    full_loses = λ t h. (laws.full_leaves t h).1;
    leave_fills = laws.leave_fills;
    gone_lose = λ t h. falsely (s.may_lose t) (λ k. let c = laws.lose_calls t k in cc (c.1, h));
    gone_fill = λ t h. falsely (s.may_fill t) (λ k. let c = laws.fill_calls t k in cc (c.1, h));
    lost_again = laws.lost_again;
  }

  -- How a thread of the scheduled machine stands to the steps that it has left.
  abbrev pub Stands : List (Step E V A) → T → Place A → T → List (Step E V A) → Type 0
  Stands steps end Unstarted t left = left ≡ steps
  Stands steps end Free t left = IsThreadRun s t left end
  Stands steps end Open t left = (s.wants t ≡ Awaits) × IsThreadRun s t left end
  Stands steps end (Due a) t left = (awaiting : T) × (t ≡ s.hears awaiting a) × (s.wants awaiting ≡ Awaits) × IsThreadRun s awaiting left end

module _ {E V A : Type 0} where
  -- The answer that is due, as a step.
  abbrev pub due_step : Place A → List (Step E V A)
  due_step Unstarted = []
  due_step Free = []
  due_step Open = []
  due_step (Due a) = Acts (Heard a) ∷ []

  -- The steps before the first act.
  abbrev pub before_first_act : List (Step E V A) → List (Step E V A)
  before_first_act [] = []
  before_first_act (Own ∷ steps) = Own ∷ before_first_act steps
  before_first_act (Lost e ∷ steps) = Lost e ∷ before_first_act steps
  before_first_act (Full e ∷ steps) = Full e ∷ before_first_act steps
  before_first_act (Acts a ∷ steps) = []

  -- The acts and the lost tries, in order.
  abbrev pub tries : List (Step E V A) → List (Option (Act E V A))
  tries [] = []
  tries (Own ∷ steps) = tries steps
  tries (Lost e ∷ steps) = None ∷ tries steps
  tries (Full e ∷ steps) = tries steps
  tries (Acts a ∷ steps) = Some a ∷ tries steps

module _ {X T E V A : Type 0} (s : System X T E V A) where
  -- What marks do from a point of a history on, with the steps that each thread has left.
  pub record Rest (w : State X T) (q : ℕ → Place A) (left : ℕ → List (Step E V A)) (ends : ℕ → T) (H : List (Entry E V A)) (S : List Mark) : Type 0 where
    pub ordered : IsOrdered s w.shared q H
    pub events_are : entries_made s w S ≡ without_answers H
    pub views_are : (m : ℕ) → due_step (q m) ++ steps_made s m w S ≡ left m
    pub shared_is : (scheduled_run s w S).shared ≡ shared_after s w.shared H
    pub ends_are : (m : ℕ) → places_after s w.shared q H m ≡ Free → (scheduled_run s w S).threads m ≡ ends m
    pub gone : (m : ℕ) → places_after s w.shared q H m ≡ Free → s.wants (ends m) ≡ Gone
    pub closed : (m : ℕ) → IsClosed (places_after s w.shared q H m)
