-- Plain turns of threads keep the laws of plain turns.
use Rattle.std.proofs.Common.{◌≡◌, ◌≢◌, ℕ, refl, sym, ◌∙◌, ap, Option, None}
use Rattle.schedule.specs.System.{Want.Turns, System, State, put}
use Rattle.schedule.specs.Scheduled.{after_turn, after_event, hears_any, or_started}
use Rattle.schedule.proofs.Basics.{at_each, put-same, put-other}

module _ {X T E V A : Type 0} (s : System X T E V A) where
  -- what comes of a thread that is told and started so
  abbrev Told : (ℕ → T) → ℕ → T → (ℕ → Option A) → (ℕ → Option T) → ℕ → T
  Told f u t gives starts m = or_started (starts m) (hears_any s (put f u t m) (gives m))

  told_by : (f h : ℕ → T) (u m : ℕ) (t : T) (a b : Option A) (n o : Option T) → put f u t m ≡ h m → a ≡ b → n ≡ o
      → or_started n (hears_any s (put f u t m) a) ≡ or_started o (hears_any s (h m) b)
  told_by f h u m t a b n o e p q i = or_started (q i) (hears_any s (e i) (p i))

  -- Two threads' places are set in any order, where the first one is told nothing and isn't started.
  swap_at : (f : ℕ → T) (t u : ℕ) (x y : T) (gives : ℕ → Option A) (starts : ℕ → Option T) → u ≢ t → gives t ≡ None → starts t ≡ None
      → (m : ℕ) → Told (put f t x) u y gives starts m ≡ put (Told f u y gives starts) t x m
  swap_at f t u x y gives starts d none_given none_started = at_each t
      (λ m. Told (put f t x) u y gives starts m ≡ put (Told f u y gives starts) t x m)
      (told_by (put f t x) (put f t x) u t y (gives t) None (starts t) None (put-other (put f t x) u y t (λ e. d (sym e))) none_given none_started
      ∙ (put-same f t x ∙ sym (put-same (Told f u y gives starts) t x)))
      (λ m apart. told_by (put f t x) (put f u y) u m y (gives m) (gives m) (starts m) (starts m) (inner m apart) refl refl
      ∙ sym (put-other (Told f u y gives starts) t x m apart))
    where
      inner : (m : ℕ) → m ≢ t → put (put f t x) u y m ≡ put f u y m
      inner m apart = at_each u (λ m. m ≢ t → put (put f t x) u y m ≡ put f u y m)
          (λ p. put-same (put f t x) u y ∙ sym (put-same f u y))
          (λ m other p. put-other (put f t x) u y m other ∙ (put-other f t x m p ∙ sym (put-other f u y m other)))
          m apart

  swapped : (f : ℕ → T) (t u : ℕ) (v v' y y' : T) (gives gives' : ℕ → Option A) (starts starts' : ℕ → Option T) → u ≢ t → y' ≡ y → v' ≡ v
      → ((m : ℕ) → gives' m ≡ gives m) → ((m : ℕ) → starts' m ≡ starts m) → gives t ≡ None → starts t ≡ None
      → (m : ℕ) → Told (put f t v) u y' gives' starts' m ≡ put (Told f u y gives starts) t v' m
  swapped f t u v v' y y' gives gives' starts starts' d same_y same_v same_gives same_starts none_given none_started m =
      (λ i. or_started (same_starts m i) (hears_any s (put (put f t v) u (same_y i) m) (same_gives m i)))
      ∙ (swap_at f t u v y gives starts d none_given none_started m
      ∙ ap (λ z. put (Told f u y gives starts) t z m) (sym same_v))

  -- what comes of a quiet turn: this is shared then, and the thread is this one
  abbrev pub Quiet : State X T → ℕ → X → T → State X T
  Quiet w t x v = record { shared = x; threads = put w.threads t v }

  pub quiet_event : (w : State X T) (t : ℕ) (e : E) → ((m : ℕ) → s.gives w.shared t e m ≡ None) → ((m : ℕ) → s.starts w.shared t e m ≡ None)
      → after_event s w t e ≡ Quiet w t (s.after w.shared t e) (s.takes (w.threads t) (s.reply w.shared t e))
  quiet_event w t e gives starts = λ i. record {
    shared = s.after w.shared t e;
    threads = λ m. or_started (starts m i) (hears_any s (put w.threads t (s.takes (w.threads t) (s.reply w.shared t e)) m) (gives m i));
  }

  pub swap_turn : (w : State X T) (t u : ℕ) (x : X) (v v' : T) → u ≢ t → v' ≡ v
      → after_turn s (Quiet w t x v) u Turns ≡ Quiet (after_turn s w u Turns) t x v'
  swap_turn w t u x v v' d same_v = λ i. record {
    shared = x;
    threads = λ m. swapped w.threads t u v v' (s.own_turn (w.threads u)) (s.own_turn (put w.threads t v u)) (λ (k : ℕ). None) (λ (k : ℕ). None)
        (λ (k : ℕ). None) (λ (k : ℕ). None) d (ap s.own_turn (put-other w.threads t v u d)) same_v (λ k. refl) (λ k. refl) refl refl m i;
  }

  pub swap_event : (w : State X T) (t u : ℕ) (x z : X) (v v' : T) (g : E) → u ≢ t → v' ≡ v → s.after x u g ≡ z → s.reply x u g ≡ s.reply w.shared u g
      → ((m : ℕ) → s.gives x u g m ≡ s.gives w.shared u g m) → ((m : ℕ) → s.starts x u g m ≡ s.starts w.shared u g m)
      → s.gives w.shared u g t ≡ None → s.starts w.shared u g t ≡ None
      → after_event s (Quiet w t x v) u g ≡ Quiet (after_event s w u g) t z v'
  swap_event w t u x z v v' g d same_v same_x reply gives starts none_given none_started = λ i. record {
    shared = same_x i;
    threads = λ m. swapped w.threads t u v v' (s.takes (w.threads u) (s.reply w.shared u g)) (s.takes (put w.threads t v u) (s.reply x u g))
        (s.gives w.shared u g) (s.gives x u g) (s.starts w.shared u g) (s.starts x u g) d
        (λ j. s.takes (put-other w.threads t v u d j) (reply j)) same_v gives starts none_given none_started m i;
  }
