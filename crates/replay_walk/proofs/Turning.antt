-- A turn to which nothing is given.
use Rattle.std.proofs.Common.{◌≡◌, ℕ, zero, suc, ◌<◌, ◌+◌, Option, Some, None, refl, sym, ◌∙◌, ap, subst, arith, ◌⊎◌, inl, inr}
use Rattle.types.specs.declared.event.Event.{Event}
use Rattle.types.specs.declared.outcome.Outcome.{Outcome}
use Rattle.schedule.specs.System.{Want, Want.Turns, Want.Calls, Want.Awaits, Want.Gone}
use Rattle.schedule.specs.Machine.{Wish, Wish.Asks, Wish.Waits, Wish.Ends, Thread.Absent, Thread.Runs, Thread.Over}
use Rattle.schedule.specs.Machine.{Thread.Leaves, Thread.Left, thread_goes, wanted}
use Rattle.interp_machine.specs.Program.{Program}
use Rattle.interp_machine.specs.State.{State}
use Rattle.schedule_threads.specs.Shared.{over_memory_and_queue}
use Rattle.schedule_threads.specs.Threads.{machine_of}
use Rattle.interp_trait.specs.Turns.{Running, outcome_of, wants_of, own_turn_if, answer_by, wanted_before, IsWanted, IsTurned, IsHere}
use Rattle.interp_trait.specs.Turns.{SaysWhy, IsPaused, after_own}
use Rattle.interp_trait.specs.declared.turn.Given.TheVariants as given
use Rattle.interp_trait.specs.declared.turn.Turn.{Turn}
use Rattle.interp_trait.specs.declared.turn.Turn.TheVariants as turns
use Rattle.replay_rules.specs.Walk.{ComesTo}
use Rattle.replay_walk.specs.Standing.{Says, SettlesAs}

-- it went on by a turn of its own, or it says what it wants
pub record MovesOn (p : Program) (t : Running) (Stands : Running → Type 0) : Type 0 where
  pub wants : wants_of p t ≡ Turns
  pub stands : Stands (thread_goes (machine_of p) t)
  pub here : IsHere (thread_goes (machine_of p) t)

here_goes : (p : Program) (t : Running) → IsHere t → IsHere (thread_goes (machine_of p) t)
here_goes p Absent h = absurd h
here_goes p (Runs c zero) h = tt
here_goes p (Runs c (suc n)) h = tt
here_goes p (Over o left) h = tt
here_goes p (Leaves o left) h = absurd h
here_goes p (Left o left) h = absurd h

wanted_not_gone : (p : Program) (left : ℕ) (wish : Wish Event Outcome) → wanted (machine_of p) left wish ≡ Gone → ⊥
wanted_not_gone p left Waits h = absurd (cc h)
wanted_not_gone p left (Ends o) h = absurd (cc h)
wanted_not_gone p left Wish.Goes h = absurd (cc h)
wanted_not_gone p zero (Asks e) h = absurd (cc h)
wanted_not_gone p (suc n) (Asks e) h = absurd (cc h)

not_gone : (p : Program) (t : Running) → IsHere t → wants_of p t ≡ Gone → ⊥
not_gone p Absent h g = h
not_gone p (Runs c left) h g = wanted_not_gone p left ((machine_of p).wishes c) g
not_gone p (Over o left) h g = absurd (cc g)
not_gone p (Leaves o left) h g = h
not_gone p (Left o left) h g = h

module _ (p : Program) (turn : Turn) (Stands : Running → Type 0) where
  -- what it says is of itself, or of what one turn of its own made of it
  pub record SaysNow (t : Running) : Type 0 where
    pub last : Running
    pub turns : ℕ
    pub comes : (start : ℕ → ℕ → State) (fuel : ℕ) → ComesTo (over_memory_and_queue (machine_of p) start fuel) turns t last
    pub stands : Stands last
    pub here : IsHere last
    pub says : Says p last turn

  own_turn : (t : Running) → IsHere t → wants_of p t ≡ Turns → Stands (thread_goes (machine_of p) t) → IsWanted turn
      → (o : Option Outcome) → outcome_of (thread_goes (machine_of p) t) ≡ o → (w : Want Event) → wants_of p (thread_goes (machine_of p) t) ≡ w
      → turn ≡ answer_by o w turns.Moved → ((turn ≡ turns.Moved) × MovesOn p t Stands) ⊎ SaysNow t
  own_turn t h wants stands ok (Some outcome) outcome_is w w_is answer =
      inr (record {
        last = thread_goes (machine_of p) t;
        turns = 1;
        comes = λ start fuel. (wants, refl);
        stands = stands;
        here = here_goes p t h;
        says = subst (λ (x : Turn). Says p (thread_goes (machine_of p) t) x) (sym answer) outcome_is;
      })
  own_turn t h wants stands ok None outcome_is Awaits w_is answer =
      inr (record {
        last = thread_goes (machine_of p) t;
        turns = 1;
        comes = λ start fuel. (wants, refl);
        stands = stands;
        here = here_goes p t h;
        says = subst (λ (x : Turn). Says p (thread_goes (machine_of p) t) x) (sym answer) (outcome_is, w_is);
      })
  own_turn t h wants stands ok None outcome_is Turns w_is answer =
      inl (
        answer,
        record {
          wants = wants;
          stands = stands;
          here = here_goes p t h;
        },
      )
  own_turn t h wants stands ok None outcome_is (Calls e) w_is answer =
      inl (
        answer,
        record {
          wants = wants;
          stands = stands;
          here = here_goes p t h;
        },
      )
  own_turn t h wants stands ok None outcome_is Gone w_is answer =
      inl (
        answer,
        record {
          wants = wants;
          stands = stands;
          here = here_goes p t h;
        },
      )

  at_once : (t : Running) → IsHere t → Stands t → Says p t turn → SaysNow t
  at_once t h stands says = record { last = t; turns = 0; comes = λ start fuel. refl; stands = stands; here = h; says = says }

  calls : (t : Running) (e : Event) → IsHere t → wants_of p t ≡ Calls e → Stands t → IsWanted turn → (o : Option Outcome) → outcome_of t ≡ o
      → turn ≡ answer_by o (Calls e) (turns.Wants e) → SaysNow t
  calls t e h wants stands ok (Some outcome) outcome_is answer = at_once t h stands (subst (λ (x : Turn). Says p t x) (sym answer) outcome_is)
  calls t e h wants stands ok None outcome_is answer =
      at_once t h stands (subst (λ (x : Turn). Says p t x) (sym answer) (outcome_is, wants, subst IsWanted answer ok))

  awaits : (t : Running) → IsHere t → wants_of p t ≡ Awaits → Stands t → (o : Option Outcome) → outcome_of t ≡ o
      → turn ≡ answer_by o Awaits turns.Moved → SaysNow t
  awaits t h wants stands (Some outcome) outcome_is answer = at_once t h stands (subst (λ (x : Turn). Says p t x) (sym answer) outcome_is)
  awaits t h wants stands None outcome_is answer = at_once t h stands (subst (λ (x : Turn). Says p t x) (sym answer) (outcome_is, wants))

  by_want : (t : Running) → IsHere t → IsTurned p t given.Nothing turn Stands → (w : Want Event) → wants_of p t ≡ w
      → ((turn ≡ turns.Moved) × MovesOn p t Stands) ⊎ SaysNow t
  by_want t h turned Turns w_is =
      own_turn t h w_is (subst (λ w. Stands (own_turn_if p t w)) w_is turned.after) turned.wanted _ refl _ refl
      (turned.answer ∙ (λ i. answer_by (outcome_of (own_turn_if p t (w_is i))) (wants_of p (own_turn_if p t (w_is i))) (wanted_before given.Nothing (w_is i))))
  by_want t h turned (Calls e) w_is =
      inr (calls t e h w_is (subst (λ w. Stands (own_turn_if p t w)) w_is turned.after) turned.wanted _ refl
      (turned.answer ∙ (λ i. answer_by (outcome_of (own_turn_if p t (w_is i))) (wants_of p (own_turn_if p t (w_is i))) (wanted_before given.Nothing (w_is i)))
      ∙ ap (λ w. answer_by (outcome_of t) w (turns.Wants e)) w_is))
  by_want t h turned Awaits w_is =
      inr (awaits t h w_is (subst (λ w. Stands (own_turn_if p t w)) w_is turned.after) _ refl
      (turned.answer ∙ (λ i. answer_by (outcome_of (own_turn_if p t (w_is i))) (wants_of p (own_turn_if p t (w_is i))) (wanted_before given.Nothing (w_is i)))
      ∙ ap (λ w. answer_by (outcome_of t) w turns.Moved) w_is))
  by_want t h turned Gone w_is = absurd (not_gone p t h w_is)

  pub turned_own : (t : Running) → IsHere t → IsTurned p t given.Nothing turn Stands → ((turn ≡ turns.Moved) × MovesOn p t Stands) ⊎ SaysNow t
  turned_own t h turned = by_want t h turned (wants_of p t) refl

-- on the way
pub record Going (p : Program) (t : Running) (Stands : Running → Type 0) : Type 0 where
  pub now : Running
  pub turns : ℕ
  pub comes : (start : ℕ → ℕ → State) (fuel : ℕ) → ComesTo (over_memory_and_queue (machine_of p) start fuel) turns t now
  pub stands : Stands now
  pub here : IsHere now

then_comes : (p : Program) (start : ℕ → ℕ → State) (fuel : ℕ) (j k : ℕ) (t u v : Running) → ComesTo (over_memory_and_queue (machine_of p) start fuel) j t u
    → ComesTo (over_memory_and_queue (machine_of p) start fuel) k u v → ComesTo (over_memory_and_queue (machine_of p) start fuel) (j + k) t v
then_comes p start fuel zero k t u v h g =
    let e : k ≡ 0 + k = omega arith in
    subst (λ m. ComesTo (over_memory_and_queue (machine_of p) start fuel) m t v) e
    (subst (λ x. ComesTo (over_memory_and_queue (machine_of p) start fuel) k x v) (sym h) g)
then_comes p start fuel (suc j) k t u v h g =
    let e : suc (j + k) ≡ suc j + k = omega arith in
    subst (λ m. ComesTo (over_memory_and_queue (machine_of p) start fuel) m t v) e (h.0, then_comes p start fuel j k (thread_goes (machine_of p) t) u v h.1 g)

pub goes_on : (p : Program) (t : Running) (Stands Next : Running → Type 0) (turn : Turn) → turn ≡ turns.Moved → (g : Going p t Stands)
    → IsTurned p g.now given.Nothing turn Next → Going p t Next
goes_on p t Stands Next turn moved g turned =
    elim (turned_own p turn Next g.now g.here turned) [
      | inl m ↦ record {
        now = thread_goes (machine_of p) g.now;
        turns = g.turns + 1;
        comes = λ start fuel. then_comes p start fuel g.turns 1 t g.now (thread_goes (machine_of p) g.now) (g.comes start fuel) ((m.1).wants, refl);
        stands = (m.1).stands;
        here = (m.1).here;
      }
      | inr x ↦ absurd (says_not_moved x.last (subst (λ (y : Turn). Says p x.last y) moved x.says))
    ]
  where
    says_not_moved : (u : Running) → Says p u turns.Moved → ⊥
    says_not_moved u h = h

-- it settles from where it has come to
pub settles_on : (p : Program) (t : Running) (Stands Next : Running → Type 0) (turn : Turn) → (g : Going p t Stands) → SettlesAs p g.now turn Next
    → SettlesAs p t turn Next
settles_on p t Stands Next turn g x = record {
  settled = x.settled;
  turns = g.turns + x.turns;
  comes = λ start fuel. then_comes p start fuel g.turns x.turns t g.now x.settled (g.comes start fuel) (x.comes start fuel);
  stands = x.stands;
  here = x.here;
  says = x.says;
}

-- it says something else
pub settles : (p : Program) (t : Running) (Stands Next : Running → Type 0) (turn : Turn) → (turn ≡ turns.Moved → ⊥) → (g : Going p t Stands)
    → IsTurned p g.now given.Nothing turn Next → SettlesAs p t turn Next
settles p t Stands Next turn stays g turned =
    elim (turned_own p turn Next g.now g.here turned) [
      | inl m ↦ absurd (stays m.0)
      | inr x ↦ settles_on p t Stands Next turn g (record {
        settled = x.last;
        turns = x.turns;
        comes = x.comes;
        stands = x.stands;
        here = x.here;
        says = x.says;
      })
    ]

-- so it does by turns of its own that are made at once
paused_comes : (p : Program) (start : ℕ → ℕ → State) (fuel : ℕ) (k : ℕ) (t : Running) → ((j : ℕ) → j < k → wants_of p (after_own p j t) ≡ Turns)
    → ComesTo (over_memory_and_queue (machine_of p) start fuel) k t (after_own p k t)
paused_comes p start fuel zero t each = refl
paused_comes p start fuel (suc k) t each =
    let e : k + 1 ≡ suc k = omega arith in
    subst (λ m. ComesTo (over_memory_and_queue (machine_of p) start fuel) m t (after_own p (suc k) t)) e
    (then_comes p start fuel k 1 t (after_own p k t) (after_own p (suc k) t) (paused_comes p start fuel k t (λ j low. each j (omega (arith, low))))
    (each k (omega arith), refl))

here_own : (p : Program) (k : ℕ) (t : Running) → IsHere t → IsHere (after_own p k t)
here_own p zero t h = h
here_own p (suc k) t h = here_goes p (after_own p k t) (here_own p k t h)

says_why : (p : Program) (u : Running) (turn : Turn) → SaysWhy p u turn → IsWanted turn → Says p u turn
says_why p u turns.Moved why wanted = why
says_why p u (turns.Wants e) why wanted = (why.0, why.1, wanted)
says_why p u turns.Awaits why wanted = why
says_why p u (turns.Ended o) why wanted = why

pub settles_paused : (p : Program) (t : Running) (turn : Turn) (Next : Running → Type 0) (Also : ℕ → Running → Type 0) → IsHere t
    → IsPaused p t turn (λ k now. Next now × Also k now) → SettlesAs p t turn Next
settles_paused p t turn Next Also here q = record {
  settled = after_own p q.turns t;
  turns = q.turns;
  comes = λ start fuel. paused_comes p start fuel q.turns t q.each;
  stands = q.after.0;
  here = here_own p q.turns t here;
  says = says_why p (after_own p q.turns t) turn q.answer q.wanted;
}
