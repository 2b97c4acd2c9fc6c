-- A turn from what comes to rest in a state: of its own, or the event of a thread that rests.
use Rattle.std.proofs.Common.{◌≡◌, ◌≢◌, ℕ, zero, suc, refl, sym, ◌∙◌, ap, subst, Some}
use Rattle.schedule.specs.System.{Want.Turns, Want.Calls, Want.Awaits, System, State, put}
use Rattle.schedule.specs.Scheduled.{after_event, with_thread, hears_any, or_started}
use Rattle.schedule.proofs.Basics.{at_each, put-same, put-other}
use Rattle.search_settled.specs.Settled.{ComesTo, Settles, ComesToRest, ComesToRestBy, AnswersFit}
use Rattle.search_settled.proofs.Resting.{at_rest, after_other}

module _ {X T E V A : Type 0} (s : System X T E V A) where
  -- its own turn: one less is left
  pub record OneLess (turns : ℕ → ℕ) (w z : State X T) (n : ℕ) : Type 0 where
    pub less : ℕ
    pub is : turns n ≡ suc less
    pub rest : ComesToRestBy s (put turns n less) (with_thread s w n (s.own_turn (w.threads n))) z

  pub own : (turns : ℕ → ℕ) (w z : State X T) (n : ℕ) → ComesToRestBy s turns w z → s.wants (w.threads n) ≡ Turns → OneLess turns w z n
  own turns w z n h wants = by (turns n) refl (h.comes n)
    where
      by : (count : ℕ) → turns n ≡ count → ComesTo s count (w.threads n) (z.threads n) → OneLess turns w z n
      by zero is c = absurd (h.rests n (ap s.wants (sym c) ∙ wants))
      by (suc less) is c = record {
        less = less;
        is = is;
        rest = record {
          shared = h.shared;
          comes = at_each n (λ m. ComesTo s (put turns n less m) (put w.threads n (s.own_turn (w.threads n)) m) (z.threads m))
              (subst (λ (a : ℕ). ComesTo s a (put w.threads n (s.own_turn (w.threads n)) n) (z.threads n)) (sym (put-same turns n less))
              (subst (λ v. ComesTo s less v (z.threads n)) (sym (put-same w.threads n (s.own_turn (w.threads n)))) c.1))
              (λ m apart. subst (λ (a : ℕ). ComesTo s a (put w.threads n (s.own_turn (w.threads n)) m) (z.threads m)) (sym (put-other turns n less m apart))
              (subst (λ v. ComesTo s (turns m) v (z.threads m)) (sym (put-other w.threads n (s.own_turn (w.threads n)) m apart)) (h.comes m)));
          rests = h.rests;
        };
      }

  -- its event: from here and from there all come to rest in the same
  module _ (x : X) (f g : ℕ → T) (n : ℕ) (e : E) (each : (m : ℕ) → Settles s (f m) (g m))
      (fit : (m : ℕ) (a : A) → s.gives x n e m ≡ Some a → m ≢ n → s.wants (f m) ≡ Awaits) (calls : s.wants (f n) ≡ Calls e) where
    here_same : f n ≡ g n
    here_same = at_rest s (f n) (g n) (each n) (λ t. cc (calls, t))

    by_event : (m : ℕ) (r : T)
        → Settles s (or_started (s.starts x n e m) (hears_any s (put g n (s.takes (g n) (s.reply x n e)) m) (s.gives x n e m))) r
        → Settles s (or_started (s.starts x n e m) (hears_any s (put f n (s.takes (f n) (s.reply x n e)) m) (s.gives x n e m))) r
    by_event m r = at_each n
        (λ m. Settles s (or_started (s.starts x n e m) (hears_any s (put g n (s.takes (g n) (s.reply x n e)) m) (s.gives x n e m))) r
        → Settles s (or_started (s.starts x n e m) (hears_any s (put f n (s.takes (f n) (s.reply x n e)) m) (s.gives x n e m))) r)
        (λ on. subst (λ v. Settles s (or_started (s.starts x n e n) (hears_any s v (s.gives x n e n))) r)
        (put-same g n (s.takes (g n) (s.reply x n e)) ∙
        (ap (λ v. s.takes v (s.reply x n e)) (sym here_same) ∙ sym (put-same f n (s.takes (f n) (s.reply x n e))))) on)
        (λ m apart on. subst (λ v. Settles s (or_started (s.starts x n e m) (hears_any s v (s.gives x n e m))) r)
        (sym (put-other f n (s.takes (f n) (s.reply x n e)) m apart))
        (after_other s (s.starts x n e m) (s.gives x n e m) (f m) (g m) r (each m)
        (λ a given. at_rest s (f m) (g m) (each m) (λ t. let awaits = fit m a given apart in cc (awaits, t)))
        (subst (λ v. Settles s (or_started (s.starts x n e m) (hears_any s v (s.gives x n e m))) r)
        (put-other g n (s.takes (g n) (s.reply x n e)) m apart) on)))
        m

  pub event : (w z : State X T) (n : ℕ) (e : E) → AnswersFit s w → ComesToRest s w z → s.wants (w.threads n) ≡ Calls e
      → (y : State X T) → ComesToRest s (after_event s z n e) y → ComesToRest s (after_event s w n e) y
  event w z n e fit h calls y on =
      let moved : State X T = record { shared = z.shared; threads = w.threads } in
      let same : moved ≡ w = ap (λ (x : X). record { shared = x; threads = w.threads }) (sym h.shared) in
      let fit' : AnswersFit s moved = subst (AnswersFit s) (sym same) fit in
      subst (λ v. ComesToRest s (after_event s v n e) y) same (record {
        shared = on.shared;
        each = λ m. by_event z.shared w.threads z.threads n e h.each (λ m a given apart. fit' n m e a calls given apart) calls m (y.threads m) (on.each m);
      })
