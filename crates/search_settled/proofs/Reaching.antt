-- Threads reach the state in which they rest.
use Rattle.std.proofs.Common.{◌≡◌, ℕ, zero, suc, ◌≤◌, ◌==◌, Bool, true, false, cond, refl, sym, ◌∙◌, ap, subst, arith}
use Rattle.schedule.specs.System.{Want.Turns, Want.Calls, Kind.Turn, System, State, put}
use Rattle.schedule.specs.Scheduled.{after_turn, after_mark, after_event, with_thread}
use Rattle.schedule.proofs.Basics.{at_each, put-same, put-other}
use Rattle.search_graph.specs.Paths.{Reaches}
use Rattle.search_reach.proofs.Paths.{stays, one_step, onward}
use Rattle.search_settled.specs.Settled.{ComesTo, Settles, ComesToRest, StepsBy, AreFew}
use Rattle.search_settled.proofs.Resting.{at_rest}

pub put_put : {B : Type 0} (f : ℕ → B) (n : ℕ) (a b : B) (m : ℕ) → put (put f n a) n b m ≡ put f n b m
unfolding put
put_put f n a b m = go (m == n)
  where
    go : (c : Bool) → cond c b (cond c a (f m)) ≡ cond c b (f m)
    go true = refl
    go false = refl

pub put_itself : {B : Type 0} (f : ℕ → B) (n m : ℕ) → put f n (f n) m ≡ f m
put_itself f n m = at_each n (λ m. put f n (f n) m ≡ f m) (put-same f n (f n)) (λ m h. put-other f n (f n) m h) m

module _ {X T E V A : Type 0} (s : System X T E V A) where
  abbrev Reached : State X T → State X T → Type 0
  Reached w z = Reaches (StepsBy s) w z

  -- the event that a thread wants is one step
  pub by_event : (w : State X T) (n : ℕ) (e : E) → s.wants (w.threads n) ≡ Calls e → Reached w (after_event s w n e)
  by_event w n e h = one_step (StepsBy s) w (after_event s w n e) (n, sym (ap (after_turn s w n) h))

  -- one thread's turns of its own
  by_turns : (count : ℕ) (w : State X T) (n : ℕ) (t u : T) → w.threads n ≡ t → ComesTo s count t u → Reached w (with_thread s w n u)
  by_turns zero w n t u at c =
      let same : w.threads n ≡ u = at ∙ c in
      let here : with_thread s w n (w.threads n) ≡ w = λ i. record { shared = w.shared; threads = λ m. put_itself w.threads n m i } in
      subst (λ z. Reached w z) (sym here ∙ ap (with_thread s w n) same) (stays (StepsBy s) w)
  by_turns (suc count) w n t u at c =
      let turned = with_thread s w n (s.own_turn t) in
      let wants : s.wants (w.threads n) ≡ Turns = ap s.wants at ∙ c.0 in
      let turn : after_mark s w n Turn ≡ turned = ap (after_turn s w n) wants ∙ ap (λ v. with_thread s w n (s.own_turn v)) at in
      let rest = by_turns count turned n (s.own_turn t) u (put-same w.threads n (s.own_turn t)) c.1 in
      let same : with_thread s turned n u ≡ with_thread s w n u = λ i. record { shared = w.shared; threads = λ m. put_put w.threads n (s.own_turn t) u m i } in
      onward (StepsBy s) w turned (with_thread s w n u) (one_step (StepsBy s) w turned (n, sym turn)) (subst (λ z. Reached turned z) same rest)

  -- all threads' turns, of those below a number
  below : (count : ℕ) (w z : State X T) → ComesToRest s w z → ((m : ℕ) → count ≤ m → w.threads m ≡ z.threads m) → Reached w z
  below zero w z h same =
      let whole : w ≡ z = λ i. record { shared = h.shared i; threads = λ m. same m (omega arith) i } in
      subst (λ v. Reached w v) whole (stays (StepsBy s) w)
  below (suc n) w z h same =
      let settled = h.each n in
      let turned = with_thread s w n (z.threads n) in
      let first = by_turns settled.turns w n (w.threads n) (z.threads n) refl settled.comes in
      onward (StepsBy s) w turned z first (below n turned z
      (record {
        shared = h.shared;
        each = at_each n (λ m. Settles s (put w.threads n (z.threads n) m) (z.threads m))
            (subst (λ v. Settles s v (z.threads n)) (sym (put-same w.threads n (z.threads n))) (record { turns = 0; comes = refl; rests = settled.rests }))
            (λ m apart. subst (λ v. Settles s v (z.threads m)) (sym (put-other w.threads n (z.threads n) m apart)) (h.each m));
      })
      (at_each n (λ m. n ≤ m → put w.threads n (z.threads n) m ≡ z.threads m)
      (λ within. put-same w.threads n (z.threads n))
      (λ m apart within. put-other w.threads n (z.threads n) m apart ∙ same m (omega (arith, apart, within)))))

  pub to_rest : (count : ℕ) (w z : State X T) → AreFew s count w → ComesToRest s w z → Reached w z
  to_rest count w z few h = below count w z h (λ m within. at_rest s (w.threads m) (z.threads m) (h.each m) (few m within))
