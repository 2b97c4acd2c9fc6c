-- Threads that come to rest.
use Rattle.std.proofs.Common.{◌≡◌, ℕ, zero, suc, refl, sym, ◌∙◌, ap, subst, Option, Some, None}
use Rattle.schedule.specs.System.{Want.Turns, System, State}
use Rattle.schedule.specs.Scheduled.{hears_any, or_started}
use Rattle.search_settled.specs.Settled.{ComesTo, Settles, ComesToRest, ComesToRestBy}

module _ {X T E V A : Type 0} (s : System X T E V A) where
  -- who rests comes only to itself
  rested : (count : ℕ) (t u : T) → ComesTo s count t u → (s.wants t ≡ Turns → ⊥) → t ≡ u
  rested zero t u c h = c
  rested (suc count) t u c h = absurd (h c.0)

  pub at_rest : (t u : T) → Settles s t u → (s.wants t ≡ Turns → ⊥) → t ≡ u
  at_rest t u h rests = rested h.turns t u h.comes rests

  -- what comes of a thread after an event of another
  pub after_other : (o : Option T) (a : Option A) (t u r : T) → Settles s t u → ((x : A) → a ≡ Some x → t ≡ u)
      → Settles s (or_started o (hears_any s u a)) r → Settles s (or_started o (hears_any s t a)) r
  after_other (Some new) a t u r h told on = on
  after_other None None t u r h told on = subst (λ z. Settles s t z) (at_rest u r on h.rests) h
  after_other None (Some x) t u r h told on = subst (λ z. Settles s (s.hears z x) r) (sym (told x refl)) on

  -- who rests in the end is what it was
  pub resting_same : (w z : State X T) → ComesToRest s w z → ((m : ℕ) → s.wants (w.threads m) ≡ Turns → ⊥) → w ≡ z
  resting_same w z h rests = λ i. record { shared = h.shared i; threads = λ m. at_rest (w.threads m) (z.threads m) (h.each m) (rests m) i }

  -- by so many turns, or by some
  pub rest_by : (turns : ℕ → ℕ) (w z : State X T) → ComesToRestBy s turns w z → ComesToRest s w z
  rest_by turns w z h = record { shared = h.shared; each = λ m. record { turns = turns m; comes = h.comes m; rests = h.rests m } }

  pub turns_to : (w z : State X T) → ComesToRest s w z → ℕ → ℕ
  turns_to w z h m = (h.each m).turns

  pub rest_to : (w z : State X T) (h : ComesToRest s w z) → ComesToRestBy s (turns_to w z h) w z
  unfolding turns_to
  rest_to w z h = record { shared = h.shared; comes = λ m. (h.each m).comes; rests = λ m. (h.each m).rests }

  -- a settled state rests by no turns
  pub rest_self : (z : State X T) → ((m : ℕ) → s.wants (z.threads m) ≡ Turns → ⊥) → ComesToRestBy s (λ (m : ℕ). 0) z z
  rest_self z rests = record { shared = refl; comes = λ m. refl; rests = rests }

  pub self_rests : (w z : State X T) → ComesToRestBy s (λ (m : ℕ). 0) w z → w ≡ z
  self_rests w z h = λ i. record { shared = h.shared i; threads = λ m. h.comes m i }

  -- there is one number of turns until it rests
  pub one_count : (a b : ℕ) (t u v : T) → ComesTo s a t u → (s.wants u ≡ Turns → ⊥) → ComesTo s b t v → (s.wants v ≡ Turns → ⊥) → a ≡ b
  one_count zero zero t u v c r d q = refl
  one_count zero (suc b) t u v c r d q = absurd (r (ap s.wants (sym c) ∙ d.0))
  one_count (suc a) zero t u v c r d q = absurd (q (ap s.wants (sym d) ∙ c.0))
  one_count (suc a) (suc b) t u v c r d q = ap suc (one_count a b (s.own_turn t) u v c.1 r d.1 q)
