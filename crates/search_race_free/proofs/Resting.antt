-- Threads come to rest by plain turns of their own.
use Rattle.std.proofs.Common.{◌≡◌, ◌≢◌, ◌⊎◌, ◌≤◌, inl, inr, ℕ, zero, suc, refl, sym, ◌∙◌, ap, subst, arith, List, [], ◌∷◌, ◌++◌}
use Rattle.schedule.specs.System.{Want.Turns, System, State, put}
use Rattle.schedule.specs.Scheduled.{after_turn, with_thread}
use Rattle.schedule.proofs.Basics.{at_each, put-same, put-other, same_or_not}
use Rattle.search_settled.specs.Settled.{ComesTo, Settles, ComesToRest, AreFew}
use Rattle.search_settled.specs.declared.access.NextAccess.{NextAccess}
use Rattle.search_settled.proofs.Resting.{at_rest}
use Rattle.search_settled.proofs.Reaching.{put_put, put_itself}
use Rattle.search_race_free.specs.Orders.{times, MakesPlain}
use Rattle.search_race_free.specs.Wanted.{own_turn, next_access, after_next}
use Rattle.search_race_free.proofs.Moving.{times-other, times-append}
use Rattle.search_race_free.proofs.Turning.{turn_access}

-- The thread's number so many times.
abbrev repeated : ℕ → ℕ → List ℕ
repeated n zero = []
repeated n (suc count) = n ∷ repeated n count

repeated-other : (n m count : ℕ) → n ≢ m → times m (repeated n count) ≡ 0
repeated-other n m zero d = refl
repeated-other n m (suc count) d = times-other m n (repeated n count) d ∙ repeated-other n m count d

module _ {X T E V A : Type 0} (s : System X T E V A) (accesses : X → T → E → NextAccess) (own : ℕ → NextAccess → Type 0) (free : (t : ℕ) → own t own_turn) where
  abbrev Makes : List ℕ → State X T → State X T → Type 0
  Makes = MakesPlain (next_access s accesses) (after_next s) own

  along : (us vs : List ℕ) (w v z : State X T) → Makes us w v → Makes vs v z → Makes (us ++ vs) w z
  along [] vs w v z p q = subst (λ x. Makes vs x z) (sym p) q
  along (t ∷ us) vs w v z p q = (p.0, along us vs (after_next s w t) v z p.1 q)

  -- one thread's turns
  by_turns : (count : ℕ) (w : State X T) (n : ℕ) (t u : T) → w.threads n ≡ t → ComesTo s count t u → Makes (repeated n count) w (with_thread s w n u)
  by_turns zero w n t u at c =
      let same : w.threads n ≡ u = at ∙ c in
      let here : with_thread s w n (w.threads n) ≡ w = λ i. record { shared = w.shared; threads = λ m. put_itself w.threads n m i } in
      sym here ∙ ap (with_thread s w n) same
  by_turns (suc count) w n t u at c =
      let turned = with_thread s w n (s.own_turn t) in
      let wants : s.wants (w.threads n) ≡ Turns = ap s.wants at ∙ c.0 in
      let turn : after_next s w n ≡ turned = ap (after_turn s w n) wants ∙ ap (λ v. with_thread s w n (s.own_turn v)) at in
      let same : with_thread s turned n u ≡ with_thread s w n u = λ i. record { shared = w.shared; threads = λ m. put_put w.threads n (s.own_turn t) u m i } in
      let more = by_turns count turned n (s.own_turn t) u (put-same w.threads n (s.own_turn t)) c.1 in (
        record { access = own_turn; wanted = turn_access s accesses w n wants; plain = refl; is_own = free n },
        subst (λ x. Makes (repeated n count) x (with_thread s w n u)) (sym turn) (subst (λ z. Makes (repeated n count) turned z) same more),
      )

  -- Turns of their own, by which threads come to rest: only threads that want one make any.
  pub record RestsBy (w z : State X T) : Type 0 where
    pub order : List ℕ
    pub makes : Makes order w z
    pub none : (m : ℕ) → (s.wants (w.threads m) ≡ Turns → ⊥) → times m order ≡ 0

  none_of : (n m : ℕ) (w : State X T) (z : T) → (h : Settles s (w.threads n) z) → (s.wants (w.threads m) ≡ Turns → ⊥) → times m (repeated n h.turns) ≡ 0
  none_of n m w z h rests = by (same_or_not n m) h.turns h.comes
    where
      by : (n ≡ m) ⊎ (n ≢ m) → (count : ℕ) → ComesTo s count (w.threads n) z → times m (repeated n count) ≡ 0
      by (inr d) count c = repeated-other n m count d
      by (inl e) zero c = refl
      by (inl e) (suc count) c = absurd (rests (subst (λ x. s.wants (w.threads x) ≡ Turns) e c.0))

  below : (count : ℕ) (w z : State X T) → ComesToRest s w z → ((m : ℕ) → count ≤ m → w.threads m ≡ z.threads m) → RestsBy w z
  below zero w z h same =
      let whole : w ≡ z = λ i. record { shared = h.shared i; threads = λ m. same m (omega arith) i } in
      record { order = []; makes = whole; none = λ m rests. refl }
  below (suc n) w z h same =
      let settled = h.each n in
      let turned = with_thread s w n (z.threads n) in
      let first = by_turns settled.turns w n (w.threads n) (z.threads n) refl settled.comes in
      let more = below n turned z
      (record {
        shared = h.shared;
        each = at_each n (λ m. Settles s (put w.threads n (z.threads n) m) (z.threads m))
            (subst (λ v. Settles s v (z.threads n)) (sym (put-same w.threads n (z.threads n))) (record { turns = 0; comes = refl; rests = settled.rests }))
            (λ m apart. subst (λ v. Settles s v (z.threads m)) (sym (put-other w.threads n (z.threads n) m apart)) (h.each m));
      })
      (at_each n (λ m. n ≤ m → put w.threads n (z.threads n) m ≡ z.threads m)
      (λ within. put-same w.threads n (z.threads n))
      (λ m apart within. put-other w.threads n (z.threads n) m apart ∙ same m (omega (arith, apart, within)))) in
      record {
        order = repeated n settled.turns ++ more.order;
        makes = along (repeated n settled.turns) more.order w turned z first more.makes;
        none = λ m rests.
            let a = none_of n m w (z.threads n) settled rests in
            let b = more.none m (at_each n (λ m. (s.wants (w.threads m) ≡ Turns → ⊥) → s.wants (put w.threads n (z.threads n) m) ≡ Turns → ⊥)
            (λ k is. settled.rests (ap s.wants (sym (put-same w.threads n (z.threads n))) ∙ is))
            (λ m apart k is. k (ap s.wants (sym (put-other w.threads n (z.threads n) m apart)) ∙ is)) m rests) in
            times-append m (repeated n settled.turns) more.order ∙ omega (arith, a, b);
      }

  pub to_rest : (count : ℕ) (w z : State X T) → AreFew s count w → ComesToRest s w z → RestsBy w z
  to_rest count w z few h = below count w z h (λ m within. at_rest s (w.threads m) (z.threads m) (h.each m) (few m within))
