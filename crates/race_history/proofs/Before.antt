-- What happens before comes before.
use Rattle.std.proofs.Common.{◌≡◌, ◌⊎◌, ◌<◌, ℕ, List, inl, inr, refl, sym, subst, arith}
use Rattle.types.specs.declared.event.Entry.{Entry}
use Rattle.race_history.specs.declared.access.Site.{Site}
use Rattle.race_history.specs.Order.{IsBefore, IsEdge}
use Rattle.race_history.specs.Clocks.{IsUpTo}

module _ (log : List Entry) (sites : List Site) (opening : ℕ) where
  pub edge_earlier : (i j : ℕ) → IsEdge log sites opening i j → i < j
  edge_earlier i j h = elim h [
    | inl o ↦ o.earlier
    | inr more ↦ elim more [
      | inl s ↦ s.earlier
      | inr more' ↦ elim more' [ inl r ↦ r.earlier | inr w ↦ w.earlier ]
    ]
  ]

  pub before_earlier : (i j : ℕ) → IsBefore log sites opening i j → i < j
  before_earlier i j (IsBefore.along e) = edge_earlier i j e
  before_earlier i k (IsBefore.further {j = j} b e) =
      let first : i < j = before_earlier i j b in
      let second : j < k = edge_earlier j k e in
      omega arith

  -- its last edge
  pub last_edge : (i j : ℕ) → IsBefore log sites opening i j → (k : ℕ) × (IsUpTo log sites opening i k × IsEdge log sites opening k j)
  last_edge i j (IsBefore.along e) = (i, (inl refl, e))
  last_edge i k (IsBefore.further {j = j} b e) = (j, (inr b, e))

  pub up_to_edge : (i k j : ℕ) → IsUpTo log sites opening i k → IsEdge log sites opening k j → IsBefore log sites opening i j
  up_to_edge i k j up e = elim up [
    | inl same ↦ subst (λ (n : ℕ). IsBefore log sites opening n j) (sym same) (IsBefore.along e)
    | inr b ↦ IsBefore.further b e
  ]

  -- up to one is up to another
  pub up_to_more : (i k s : ℕ) → IsUpTo log sites opening i k → (k ≡ s) ⊎ IsEdge log sites opening k s → IsUpTo log sites opening i s
  up_to_more i k s up more = elim more [
    | inl same ↦ subst (λ (n : ℕ). IsUpTo log sites opening i n) same up
    | inr e ↦ inr (up_to_edge i k s up e)
  ]
