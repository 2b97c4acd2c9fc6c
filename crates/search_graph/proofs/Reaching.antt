-- Marks of the states from which one that has ended can be reached.
use Rattle.std.specs.Prelude.{◌≡◌, ◌≢◌, ◌<◌, ◌≤◌, ◌+◌, ◌⊎◌, ◌↔◌, ℕ, zero, suc, Bool, true, false, List, [], ◌∷◌, ◌++◌}
use Rattle.std.specs.Prelude.{Contains, length, drop, slice_index, slice_index_or, refl}
use Rattle.std.specs.List.Sorted.{IsStrictlyIncreasing}
use Rattle.std.proofs.Common.{subst, sym, ◌∙◌, inl, inr, arith, true≢false, length-append}
use Rattle.std.proofs.lemmas.Bool.{cases_eq, cases_lt}
use Rattle.std.proofs.lemmas.List.Elements.{All-contains, All-cons, All-same, Contains-get_or, Contains-push, Contains-push_cases, Contains-append_left}
use Rattle.std.proofs.lemmas.List.{get_or_push}
use Rattle.std.proofs.Math.ListN.{get_or-append}
use Rattle.std.proofs.Math.Seq.{drop-cons}
use lib.ListN.{set}
use Rattle.search_graph.specs.declared.graph.Move.{Move}
use Rattle.search_graph.specs.Paths.{Goes}
use Rattle.search_graph.specs.Graph.{Steps, CanEnd, CannotEnd, IsMarked, move_at}
use Rattle.search_graph.specs.Marking.{unmarked_in, MarkCanEnd, IsClosed, AreUnmarked}

-- One mark more, one unmarked fewer.
pub fewer-set : (marks : List Bool) (i : ℕ) → i < length marks → slice_index_or marks i false ≡ false → unmarked_in (set marks i true) + 1 ≡ unmarked_in marks
fewer-set [] i h e = absurd (omega arith)
fewer-set (true ∷ marks) zero h e = absurd (true≢false e)
fewer-set (false ∷ marks) zero h e = omega arith
fewer-set (true ∷ marks) (suc i) h e = fewer-set marks i (omega arith) e
fewer-set (false ∷ marks) (suc i) h e = omega (arith, fewer-set marks i (omega arith) e)

module _ (moves : List Move) (ended : List Bool) where
  onward : (s z : ℕ) → Steps moves s z → CanEnd moves ended z → CanEnd moves ended s
  onward s z h e = record { end = e.end; path = record { count = suc e.path.count; path = (z, h, e.path.path) }; is = e.is }

  -- At first those are marked that have ended.
  pub ended-can-end : (marks : List Bool) → marks ≡ ended → MarkCanEnd moves ended marks
  ended-can-end marks e = record {
    sound = λ s h. record { end = s; path = record { count = 0; path = refl }; is = subst (λ l. IsMarked l s) e h };
    all = λ s h. subst (λ l. IsMarked l s) (sym e) h;
  }

  -- The mark goes back along a move.
  pub back-can-end : (marks new : List Bool) (k : ℕ) → k < length moves → ((s : ℕ) → IsMarked marks s → IsMarked new s)
      → ((s : ℕ) → IsMarked new s → IsMarked marks s ⊎ ((s ≡ (move_at moves k).from) × IsMarked marks (move_at moves k).next))
      → MarkCanEnd moves ended marks → MarkCanEnd moves ended new
  back-can-end marks new k h kept marked e = record { sound = λ s m. by s (marked s m); all = λ s d. kept s (e.all s d) }
    where
      by : (s : ℕ) → IsMarked marks s ⊎ ((s ≡ (move_at moves k).from) × IsMarked marks (move_at moves k).next) → CanEnd moves ended s
      by s (inl m) = e.sound s m
      by s (inr p) =
          subst (CanEnd moves ended) (sym p.0)
          (onward (move_at moves k).from (move_at moves k).next
          (record { thread = (move_at moves k).thread; is = Contains-get_or moves k (record { from = 0; thread = 0; next = 0 }) h })
          (e.sound (move_at moves k).next p.1))

  -- Marks that moves don't lead into reach back to wherever one that has ended can be reached from.
  module _ (marks : List Bool) (e : MarkCanEnd moves ended marks) (closed : IsClosed moves marks) where
    back : (count s z : ℕ) → Goes (Steps moves) count s z → IsMarked ended z → IsMarked marks s
    back zero s z p d = e.all s (subst (IsMarked ended) (sym p) d)
    back (suc count) s z p d =
        All-contains (λ m. IsMarked marks m.next → IsMarked marks m.from) moves _ closed p.1.is (back count p.0 z p.2 d)

    pub marked-can-end : (s : ℕ) → IsMarked marks s ↔ CanEnd moves ended s
    marked-can-end s = (e.sound s, λ c. back c.path.count s c.end c.path.path c.is)

  -- The states that are not marked in the end.
  module _ (marks : List Bool) (states : ℕ) (found : List ℕ) (len : length marks ≡ states) (exact : (s : ℕ) → IsMarked marks s ↔ CanEnd moves ended s)
      (u : AreUnmarked marks (length marks) found) where
    pub exactly : (s : ℕ) → Contains found s ↔ CannotEnd moves ended states s
    exactly s = (λ h. record { state = within h; never = λ c. (u.sound s h).1 ((exact s).1 c) }, λ n. by n (u.all s (let b = n.state in omega arith)))
      where
        within : Contains found s → s < states
        within h = let b = (u.sound s h).0 in omega (arith, b)

        by : CannotEnd moves ended states s → Contains found s ⊎ IsMarked marks s → Contains found s
        by n (inl h) = h
        by n (inr m) = absurd (n.never ((exact s).0 m))

    pub others : (s : ℕ) → s < states → Contains found s ⊎ CanEnd moves ended s
    others s l = by (u.all s (omega arith))
      where
        by : Contains found s ⊎ IsMarked marks s → Contains found s ⊎ CanEnd moves ended s
        by (inl h) = inl h
        by (inr m) = inr ((exact s).0 m)

-- One more move is gone along.
pub closed-more : (moves : List Move) (marks : List Bool) (i k : ℕ) → k ≡ suc i → i < length moves →
    (IsMarked marks (move_at moves i).next → IsMarked marks (move_at moves i).from)
    → IsClosed (drop k moves) marks → IsClosed (drop i moves) marks
closed-more moves marks i k e h here rest =
    All-same (λ m. IsMarked marks m.next → IsMarked marks m.from) (drop i moves) (move_at moves i ∷ drop (suc i) moves)
    (drop-cons moves i (record { from = 0; thread = 0; next = 0 }) h)
    (All-cons (λ m. IsMarked marks m.next → IsMarked marks m.from) (move_at moves i) (drop (suc i) moves) here
    (subst (λ j. IsClosed (drop j moves) marks) e rest))

-- One more state is gone past.
module _ (marks : List Bool) (found new : List ℕ) (s : ℕ) (u : AreUnmarked marks s found) where
  before : {X : Type 0} (v : ℕ) → v < s + 1 → (v < s → X) → (v ≡ s → X) → X
  before {X} v l less same = by (cases_eq v s)
    where
      by : (v ≡ s) ⊎ (v ≢ s) → X
      by (inl e) = same e
      by (inr n) = less (omega (arith, n))

  wider : (v : ℕ) → (v < s) × (IsMarked marks v → ⊥) → (v < s + 1) × (IsMarked marks v → ⊥)
  wider v p = let l = p.0 in (omega (arith, l), p.1)

  pub past-unmarked : slice_index_or marks s false ≡ false → new ≡ found ++ s ∷ [] → AreUnmarked marks (s + 1) new
  past-unmarked e is = subst (λ l. AreUnmarked marks (s + 1) l) (sym is) (record {
    sound = λ v c. by v (Contains-push_cases found s v c);
    all = λ v l. before v l (λ less. longer v (u.all v less)) (λ q. inl (subst (Contains (found ++ s ∷ [])) (sym q) (Contains-push found s)));
  })
    where
      by : (v : ℕ) → Contains found v ⊎ (s ≡ v) → (v < s + 1) × (IsMarked marks v → ⊥)
      by v (inl c) = wider v (u.sound v c)
      by v (inr q) = subst (λ w. (w < s + 1) × (IsMarked marks w → ⊥)) q (omega arith, λ m. true≢false (sym m ∙ e))

      longer : (v : ℕ) → Contains found v ⊎ IsMarked marks v → Contains (found ++ s ∷ []) v ⊎ IsMarked marks v
      longer v (inl c) = inl (Contains-append_left found (s ∷ []) v c)
      longer v (inr m) = inr m

  pub past-marked : slice_index_or marks s false ≡ true → new ≡ found → AreUnmarked marks (s + 1) new
  past-marked e is = subst (λ l. AreUnmarked marks (s + 1) l) (sym is) (record {
    sound = λ v c. wider v (u.sound v c);
    all = λ v l. before v l (u.all v) (λ q. inr (subst (IsMarked marks) (sym q) e));
  })

-- A greater number behind numbers that rise.
pub rises : (xs new : List ℕ) (n : ℕ) → ((v : ℕ) → Contains xs v → v < n) → new ≡ xs ++ n ∷ [] → IsStrictlyIncreasing xs → IsStrictlyIncreasing new
rises xs new n below is old = subst IsStrictlyIncreasing (sym is) up
  where
    last : (k : ℕ) → k + 1 ≡ length xs → slice_index (xs ++ n ∷ []) k < slice_index (xs ++ n ∷ []) (k + 1)
    last k e = omega (
      arith,
      get_or-append xs (n ∷ []) 0 k (omega arith),
      get_or_push xs n 0 (k + 1) (sym e),
      below (slice_index xs k) (Contains-get_or xs k 0 (omega arith)),
    )

    by : (k : ℕ) → k + 1 < length (xs ++ n ∷ []) → (k + 1 < length xs) ⊎ (length xs ≤ k + 1) → slice_index (xs ++ n ∷ []) k < slice_index (xs ++ n ∷ []) (k + 1)
    by k l (inl h) = omega (arith, get_or-append xs (n ∷ []) 0 k (omega arith), get_or-append xs (n ∷ []) 0 (k + 1) h, old k h)
    by k l (inr h) = last k (omega (arith, length-append xs (n ∷ [])))

    up : IsStrictlyIncreasing (xs ++ n ∷ [])
    up k l = by k l (cases_lt (k + 1) (length xs))
