-- Whether a thread has a move at a state, and whether any has.
use Rattle.std.specs.Prelude.{◌≡◌, ◌≢◌, ◌⊎◌, ℕ, List, [], ◌∷◌, Contains, refl}
use Rattle.std.proofs.Common.{ap, inl, inr, arith}
use Rattle.std.proofs.lemmas.Bool.{cases_eq}
use Rattle.std.proofs.lemmas.List.Elements.{Contains-append_right, Contains-append_cases, Contains-push_cases}
use Rattle.search_graph.specs.declared.graph.Move.{Move}
use Rattle.search_graph.specs.Graph.{CanMove, IsStill}

abbrev made : ℕ → ℕ → ℕ → Move
made s t z = record { from = s; thread = t; next = z }

module _ (m : Move) (moves : List Move) (s t : ℕ) where
  longer : CanMove moves s t → CanMove (m ∷ moves) s t
  longer c = record { next = c.next; is = Contains-append_right (m ∷ []) moves _ c.is }

  first : m.from ≡ s → m.thread ≡ t → CanMove (m ∷ moves) s t
  first f h = record { next = m.next; is = (0, omega arith, λ i. record { from = f i; thread = h i; next = m.next }) }

  -- It is not this move, and none of the others.
  shorter : (c : CanMove (m ∷ moves) s t) → (m ≡ made s t c.next → ⊥) → (CanMove moves s t → ⊥) → ⊥
  shorter c n r = last (Contains-append_cases (m ∷ []) moves _ c.is)
    where
      only : Contains [] (made s t c.next) ⊎ (m ≡ made s t c.next) → ⊥
      only (inl d) = omega (arith, d.1)
      only (inr e) = n e

      last : Contains (m ∷ []) (made s t c.next) ⊎ Contains moves (made s t c.next) → ⊥
      last (inl d) = only (Contains-push_cases [] m _ d)
      last (inr d) = r (record { next = c.next; is = d })

-- The thread has a move at the state or has none.
pub decide : (moves : List Move) (s t : ℕ) → CanMove moves s t ⊎ (CanMove moves s t → ⊥)
decide [] s t = inr (λ c. omega (arith, c.is.1))
decide (m ∷ moves) s t = by (cases_eq m.from s) (cases_eq m.thread t) (decide moves s t)
  where
    by : (m.from ≡ s) ⊎ (m.from ≢ s) → (m.thread ≡ t) ⊎ (m.thread ≢ t) → CanMove moves s t ⊎ (CanMove moves s t → ⊥) → CanMove (m ∷ moves) s t ⊎
        (CanMove (m ∷ moves) s t → ⊥)
    by f h (inl c) = inl (longer m moves s t c)
    by (inl f) (inl h) (inr r) = inl (first m moves s t f h)
    by (inr f) h (inr r) = inr (λ c. shorter m moves s t c (λ e. f (ap (λ v. v.from) e)) r)
    by (inl f) (inr h) (inr r) = inr (λ c. shorter m moves s t c (λ e. h (ap (λ v. v.thread) e)) r)

-- The state is an end, or some thread has a move there.
pub ends-or-moves : (moves : List Move) (s : ℕ) → IsStill moves s ⊎ ((t : ℕ) × CanMove moves s t)
ends-or-moves [] s = inl (λ t c. omega (arith, c.is.1))
ends-or-moves (m ∷ moves) s = by (cases_eq m.from s) (ends-or-moves moves s)
  where
    by : (m.from ≡ s) ⊎ (m.from ≢ s) → IsStill moves s ⊎ ((t : ℕ) × CanMove moves s t) → IsStill (m ∷ moves) s ⊎ ((t : ℕ) × CanMove (m ∷ moves) s t)
    by (inl f) r = inr (m.thread, first m moves s m.thread f refl)
    by (inr f) (inr c) = inr (c.0, longer m moves s c.0 c.1)
    by (inr f) (inl e) = inl (λ t c. shorter m moves s t c (λ q. f (ap (λ v. v.from) q)) (e t))
