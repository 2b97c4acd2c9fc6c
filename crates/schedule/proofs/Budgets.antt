-- A thread with a budget keeps the laws of a thread.
use Rattle.std.proofs.Common.{◌≡◌, ℕ, zero, suc, ◌-◌, Bool, true, false, not, ◌⊎◌, inl, inr, refl, sym, ◌∙◌, ap, subst, arith, Option}
use Rattle.schedule.specs.Machine.{Machine, MachineLaws, Thread, Thread.Absent, Thread.Leaves, Thread.Left}
use Rattle.schedule.specs.Machine.{Thread.Over, Thread.Runs, Wish, Wish.Asks, Wish.Ends, Wish.Goes, Wish.Waits}
use Rattle.schedule.specs.Machine.{system, takes_by, thread_full, thread_goes, thread_lost, thread_takes}
use Rattle.schedule.specs.Machine.{thread_wants, thread_wants_a, wanted, wants_a}
use Rattle.schedule.specs.System.{Want.Awaits, Want.Calls, Want.Gone, Want.Turns}
use Rattle.schedule.specs.ThreadRun.{Laws}
use Rattle.schedule.proofs.Leaving.{never_gone}

module _ {C E V A O : Type 0} (k : Machine C E V A O) (l : MachineLaws k) where
  waits_awaits : (c : C) (n : ℕ) → k.wishes c ≡ Waits → wanted k n (k.wishes c) ≡ Awaits
  waits_awaits c n h = ap (wanted k n) h

  opened_by : (w : Wish E O) (c : C) (n : ℕ) (e : E) (v : V) → k.wishes c ≡ w → wanted k n w ≡ Calls e
      → k.opens e v ≡ true → thread_wants k (takes_by k w c n v) ≡ Awaits
  opened_by Waits c n e v is h o = absurd (cc)
  opened_by (Ends x) c n e v is h o = refl
  opened_by Goes c n e v is h o = absurd (cc)
  opened_by (Asks e') c zero e v is h o = absurd (cc)
  opened_by (Asks e') c (suc n) e v is h o =
      let same : e' ≡ e = cc in
      waits_awaits (k.takes c v) (suc n - 1) (l.opened c e v (is ∙ ap (λ z. Asks z) same) o)

  pub opened : (t : Thread C O) (e : E) (v : V) → thread_wants k t ≡ Calls e → k.opens e v ≡ true → thread_wants k (thread_takes k t v) ≡ Awaits
  opened Absent e v h o = absurd (cc)
  opened (Runs c n) e v h o = opened_by (k.wishes c) c n e v refl h o
  opened (Over x n) e v h o = refl
  opened (Leaves x n) e v h o = absurd (cc)
  opened (Left x n) e v h o = absurd (cc)

  -- with such an event it wants that event, and nothing else
  a_calls : (p : E → Bool) (n : ℕ) (w : Wish E O) → wants_a k p n w ≡ true → (e : E) × (wanted k n w ≡ Calls e) × (p e ≡ true)
  a_calls p n Waits h = absurd (cc)
  a_calls p n (Ends x) h = absurd (cc)
  a_calls p n Goes h = absurd (cc)
  a_calls p zero (Asks e) h = absurd (cc)
  a_calls p (suc n) (Asks e) h = (e, refl, h)

  pub thread_calls : (p : E → Bool) (t : Thread C O) → thread_wants_a k p t ≡ true → (e : E) × (thread_wants k t ≡ Calls e) × (p e ≡ true)
  thread_calls p Absent h = absurd (cc)
  thread_calls p (Runs c n) h = a_calls p n (k.wishes c) h
  thread_calls p (Over x n) h = absurd (cc)
  thread_calls p (Leaves x n) h = absurd (cc)
  thread_calls p (Left x n) h = absurd (cc)

  falsely : (b : Bool) → (b ≡ true → ⊥) → b ≡ false
  falsely true h = absurd (h refl)
  falsely false h = refl

  pub calls_none : (p : E → Bool) (t : Thread C O) → ((e : E) → thread_wants k t ≡ Calls e → ⊥) → thread_wants_a k p t ≡ false
  calls_none p t h = falsely (thread_wants_a k p t) (λ z. let c = thread_calls p t z in h c.0 c.1)

  pub own_stays : (t : Thread C O) → thread_wants k t ≡ Turns → thread_wants k (thread_goes k t) ≡ Gone → ⊥
  own_stays Absent h g = cc
  own_stays (Runs c zero) h g = cc
  own_stays (Runs c (suc n)) h g = never_gone k n (k.wishes (k.goes c)) g
  own_stays (Over x n) h g = cc
  own_stays (Leaves x n) h g = cc
  own_stays (Left x n) h g = cc

  pub lost_stays : (p : E → Bool) (t : Thread C O) → thread_wants_a k p t ≡ true → thread_wants k (thread_lost k t) ≡ Gone → ⊥
  lost_stays p Absent h g = cc
  lost_stays p (Runs c n) h g = never_gone k (n - 1) (k.wishes c) g
  lost_stays p (Over x n) h g = cc
  lost_stays p (Leaves x n) h g = cc
  lost_stays p (Left x n) h g = cc

  pub full_leaves : (p : E → Bool) (t : Thread C O) → thread_wants_a k p t ≡ true → thread_wants k (thread_full k t) ≡ Calls k.leave
  full_leaves p Absent h = absurd (cc)
  full_leaves p (Runs c n) h = refl
  full_leaves p (Over x n) h = absurd (cc)
  full_leaves p (Leaves x n) h = absurd (cc)
  full_leaves p (Left x n) h = absurd (cc)

  pub full_loses : (p p' : E → Bool) (t : Thread C O) → thread_wants_a k p t ≡ true → thread_wants_a k p' (thread_full k t) ≡ false
  full_loses p p' Absent h = absurd (cc)
  full_loses p p' (Runs c n) h = refl
  full_loses p p' (Over x n) h = absurd (cc)
  full_loses p p' (Leaves x n) h = absurd (cc)
  full_loses p p' (Left x n) h = absurd (cc)

  -- a try that was lost is made again, unless no unit is left
  lost_by : (p : E → Bool) (c : C) (n : ℕ) (e : E) (w : Wish E O) → k.wishes c ≡ w → wants_a k p n w ≡ true → wanted k n w ≡ Calls e
      → (wanted k (n - 1) w ≡ Calls e) ⊎ ((wanted k (n - 1) w ≡ Turns)
      × ((thread_wants k (thread_goes k (Runs c (n - 1))) ≡ Calls k.leave)
      × (thread_wants_a k p (thread_goes k (Runs c (n - 1))) ≡ false)))
  lost_by p c n e Waits is h want = absurd (cc)
  lost_by p c n e (Ends o) is h want = absurd (cc)
  lost_by p c n e Goes is h want = absurd (cc)
  lost_by p c zero e (Asks x) is h want = absurd (cc)
  lost_by p c (suc zero) e (Asks x) is h want = inr (refl, (refl, refl))
  lost_by p c (suc (suc n)) e (Asks x) is h want = let less : suc (suc n) - 1 ≡ suc n = omega arith in inl (ap (λ z. wanted k z (Asks x)) less ∙ want)

  lost_again : (p : E → Bool) (t : Thread C O) (e : E) → thread_wants_a k p t ≡ true → thread_wants k t ≡ Calls e
      → (thread_wants k (thread_lost k t) ≡ Calls e)
      ⊎ ((thread_wants k (thread_lost k t) ≡ Turns)
      × ((thread_wants k (thread_goes k (thread_lost k t)) ≡ Calls k.leave)
      × (thread_wants_a k p (thread_goes k (thread_lost k t)) ≡ false)))
  lost_again p Absent e h want = absurd (cc)
  lost_again p (Runs c n) e h want = lost_by p c n e (k.wishes c) refl h want
  lost_again p (Over x n) e h want = absurd (cc)
  lost_again p (Leaves x n) e h want = absurd (cc)
  lost_again p (Left x n) e h want = absurd (cc)

  -- of a system whose threads these are
  module _ {X : Type 0} (reply : X → ℕ → E → V) (after : X → ℕ → E → X) (gives : X → ℕ → E → ℕ → Option A) (starts : X → ℕ → E → ℕ → Option (Thread C O)) where
    pub laws : Laws (system k reply after gives starts)
    laws = record {
      opened = opened;
      lose_calls = λ t h. let c = thread_calls k.may_be_lost t h in (c.0, c.1);
      fill_calls = λ t h. let c = thread_calls (λ e. not (k.is_exempt e)) t h in (c.0, c.1);
      own_stays = own_stays;
      leave = k.leave;
      lost_again = lost_again k.may_be_lost;
      full_leaves = λ t h. (full_leaves (λ e. not (k.is_exempt e)) t h, full_loses (λ e. not (k.is_exempt e)) k.may_be_lost t h);
      leave_fills = λ t h g.
          let c = thread_calls (λ e. not (k.is_exempt e)) t h in
          let same : c.0 ≡ k.leave = cc (c.1, g) in
          let no_no : not (k.is_exempt k.leave) ≡ true = subst (λ z. not (k.is_exempt z) ≡ true) same c.2 in
          cc (sym no_no ∙ ap not l.exempt);
    }
