-- A thread that can go on can until it makes a turn, and all come to rest.
use Rattle.std.proofs.Common.{◌≡◌, ◌≢◌, ◌<◌, ◌≤◌, ◌⊎◌, inl, inr, ℕ, zero, suc, refl, sym, ◌∙◌, ap, subst, arith, Option, Some, None}
use Rattle.std.proofs.lemmas.Bool.{cases_lt}
use Rattle.schedule.specs.System.{Want, Want.Turns, Want.Calls, Want.Awaits, Want.Gone, Kind.Turn, System, State, put}
use Rattle.schedule.specs.Scheduled.{after_turn, after_mark, after_event, with_thread, hears_any, or_started}
use Rattle.schedule.proofs.Basics.{put-other}
use Rattle.search_graph.specs.Paths.{Reaches}
use Rattle.search_graph.specs.Worlds.{CanStep}
use Rattle.search_reach.specs.Search.{StandsFor, RestsIn, IsOrderly}
use Rattle.search_reach.proofs.Paths.{stays, one_step, onward, by_others}
use Rattle.search_settled.specs.Settled.{ComesTo, CanGoOn, turning, StepsBy, AnswersFit, StartsFit, IsReached, AreTame}
use Rattle.search_settled.specs.declared.flat.RestingState.{RestingState}
use Rattle.search_settled.specs.Threads.{ThreadSystem}
use Rattle.search_settled.specs.Flat.{AreBounded}
use Rattle.search_settled.specs.Turns.{turn_steps}
use Rattle.search_settled.proofs.Resting.{rest_by, rest_self}
use Rattle.search_settled.proofs.Reaching.{to_rest}

module _ {X T E V A : Type 0} (s : System X T E V A) where
  -- who can't go on changes nothing
  pub idle : (w z : State X T) (n : ℕ) → z ≡ after_mark s w n Turn → CanGoOn s w n ⊎ (z ≡ w)
  idle w z n step = by (s.wants (w.threads n)) refl
    where
      by : (want : Want E) → s.wants (w.threads n) ≡ want → CanGoOn s w n ⊎ (z ≡ w)
      by Turns is = inl (inl is)
      by (Calls e) is = inl (inr (e, is))
      by Awaits is = inr (step ∙ ap (after_turn s w n) is)
      by Gone is = inr (step ∙ ap (after_turn s w n) is)

  -- so threads that can go on come wherever threads come
  pub only_going : (w z : State X T) → Reaches (StepsBy s) w z → Reaches (CanStep (turning s)) w z
  only_going = by_others (StepsBy s) (CanStep (turning s)) (λ w z step. each w z step (idle w z step.0 step.1))
    where
      each : (w z : State X T) → (step : StepsBy s w z) → CanGoOn s w step.0 ⊎ (z ≡ w) → Reaches (CanStep (turning s)) w z
      each w z step (inl can) = one_step (CanStep (turning s)) w z (record { thread = step.0; can = can; is = step.1 })
      each w z step (inr e) = subst (λ v. Reaches (CanStep (turning s)) w v) (sym e) (stays (CanStep (turning s)) w)

  -- an event leaves another thread as it was that neither awaits nor is gone
  pub event_leaves : (w : State X T) (n u : ℕ) (e : E) → AnswersFit s w → StartsFit s w → s.wants (w.threads n) ≡ Calls e → u ≢ n
      → (s.wants (w.threads u) ≡ Awaits → ⊥) → (s.wants (w.threads u) ≡ Gone → ⊥) → (after_event s w n e).threads u ≡ w.threads u
  event_leaves w n u e answers starts calls apart awaits gone =
      ap (λ o. or_started o (hears_any s (put w.threads n (s.takes (w.threads n) (s.reply w.shared n e)) u) (s.gives w.shared n e u)))
      (none_started (s.starts w.shared n e u) refl)
      ∙ (ap (λ o. hears_any s (put w.threads n (s.takes (w.threads n) (s.reply w.shared n e)) u) o) (none_given (s.gives w.shared n e u) refl)
      ∙ put-other w.threads n (s.takes (w.threads n) (s.reply w.shared n e)) u apart)
    where
      none_started : (o : Option T) → s.starts w.shared n e u ≡ o → s.starts w.shared n e u ≡ None
      none_started None is = is
      none_started (Some t) is = absurd (gone (starts n u e t calls is))

      none_given : (o : Option A) → s.gives w.shared n e u ≡ o → s.gives w.shared n e u ≡ None
      none_given None is = is
      none_given (Some a) is = absurd (awaits (answers n u e a calls is apart))

  -- so does a step of another
  step_leaves : (w z : State X T) (n u : ℕ) → AnswersFit s w → StartsFit s w → z ≡ after_mark s w n Turn → CanGoOn s w n → u ≢ n
      → (s.wants (w.threads u) ≡ Awaits → ⊥) → (s.wants (w.threads u) ≡ Gone → ⊥) → z.threads u ≡ w.threads u
  step_leaves w z n u answers starts step (inl turns) apart awaits gone =
      let is : z ≡ with_thread s w n (s.own_turn (w.threads n)) = step ∙ ap (after_turn s w n) turns in
      ap (λ (v : State X T). v.threads u) is ∙ put-other w.threads n (s.own_turn (w.threads n)) u apart
  step_leaves w z n u answers starts step (inr calls) apart awaits gone =
      let is : z ≡ after_event s w n calls.0 = step ∙ ap (after_turn s w n) calls.1 in
      ap (λ (v : State X T). v.threads u) is ∙ event_leaves w n u calls.0 answers starts calls.1 apart awaits gone

  pub not_awaits : (w : State X T) (u : ℕ) → CanGoOn s w u → s.wants (w.threads u) ≡ Awaits → ⊥
  not_awaits w u (inl turns) awaits = cc (turns, awaits)
  not_awaits w u (inr calls) awaits = let c = calls.1 in cc (c, awaits)

  pub not_gone : (w : State X T) (u : ℕ) → CanGoOn s w u → s.wants (w.threads u) ≡ Gone → ⊥
  not_gone w u (inl turns) gone = cc (turns, gone)
  not_gone w u (inr calls) gone = let c = calls.1 in cc (c, gone)

  pub persist : (w z : State X T) (n u : ℕ) → AnswersFit s w → StartsFit s w → z ≡ after_mark s w n Turn → CanGoOn s w n → u ≢ n → CanGoOn s w u → CanGoOn s z u
  persist w z n u answers starts step can apart going =
      let same = step_leaves w z n u answers starts step can apart (not_awaits w u going) (not_gone w u going) in
      subst (λ t. (s.wants t ≡ Turns) ⊎ ((e : E) × (s.wants t ≡ Calls e))) (sym same) going

module _ {X T E V A G H M O : Type 0} (k : ThreadSystem X T E V A G H M) (ends : State X T → O → Type 0) (stuck : State X T → Type 0)
    (tame : AreTame k.system k.first k.most) (bounded : AreBounded k.system k.first k.count k.most) (c : RestingState G H) where
  abbrev Stands : State X T → Type 0
  Stands = StandsFor (turn_steps k ends stuck) c

  to_settled : (w : State X T) (stands : Stands w) → Reaches (StepsBy k.system) w stands.1.settled
  to_settled w stands =
      let st = stands.1 in
      to_rest k.system k.most w st.settled (tame.few w st.reached) (rest_by k.system stands.0 w st.settled st.rest)

  reached_settled : (w : State X T) (stands : Stands w) → IsReached k.system k.first stands.1.settled
  reached_settled w stands = onward (StepsBy k.system) k.first w stands.1.settled stands.1.reached (to_settled w stands)

  -- what the state stands for comes to rest in it
  settles : (w : State X T) → Stands w → (z : State X T) × Reaches (CanStep (turning k.system)) w z × RestsIn (turn_steps k ends stuck) c z
  settles w stands =
      let st = stands.1 in (
        st.settled,
        only_going k.system w st.settled (to_settled w stands),
        record {
          reached = reached_settled w stands;
          settled = st.settled;
          rest = rest_self k.system st.settled st.rest.rests;
          settled_is = st.settled_is;
        },
      )

  few : (w : State X T) (n : ℕ) → Stands w → CanGoOn k.system w n → n < k.most
  few w n stands can = elim (cases_lt n k.most) [
    | inl low ↦ low
    | inr high ↦ absurd (beyond high (stands.0 n) (stands.1.rest.comes n))
  ]
    where
      gone : k.most ≤ n → k.system.wants (stands.1.settled.threads n) ≡ Gone
      gone high = let counted = bounded.few stands.1.settled (reached_settled w stands) in (stands.1.settled_is).others n (omega (arith, counted, high))

      beyond : k.most ≤ n → (count : ℕ) → ComesTo k.system count (w.threads n) (stands.1.settled.threads n) → ⊥
      beyond high zero c = not_gone k.system w n can (ap k.system.wants c ∙ gone high)
      beyond high (suc count) c = tame.few w stands.1.reached n high c.0

  pub turns_are_orderly : IsOrderly (turn_steps k ends stuck) c
  turns_are_orderly = record {
    idles = λ w z n stands step. idle k.system w z n step;
    few = few;
    persists = λ w z n u stands can step apart going.
        persist k.system w z n u (tame.answers w stands.1.reached) (tame.starts w stands.1.reached) step can apart going;
    settles = settles;
  }
