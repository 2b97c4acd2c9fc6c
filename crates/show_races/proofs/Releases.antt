-- The next entry of a thread that others may see.
use Rattle.std.proofs.Common.{◌≡◌, ◌<◌, ◌≤◌, ◌+◌, ℕ, false, List, Option, length, inl, inr, ap, subst, arith}
use Rattle.std.specs.List.{slice_get}
use Rattle.std.proofs.lemmas.Bool.{cases_lt}
use Rattle.std.proofs.lemmas.Option.{slice_get_past}
use Rattle.types.specs.declared.event.Entry.{Entry}
use Rattle.race_history.specs.declared.access.Site.{Site}
use Rattle.show_races.specs.Releases.{is_atomic_write, is_write_of}

module _ (log : List Entry) (sites : List Site) (thread first : ℕ) where
  pub none_next : (at : ℕ) → ((k : ℕ) → first < k → k < at → is_atomic_write log sites thread k ≡ false)
      → is_atomic_write log sites thread at ≡ false → (k : ℕ) → first < k → k < at + 1 → is_atomic_write log sites thread k ≡ false
  none_next at before here k behind within = elim (cases_lt k at) [
    | inl lt ↦ before k behind lt
    | inr ge ↦ subst (λ (n : ℕ). is_atomic_write log sites thread n ≡ false) (omega (arith, ge, within)) here
  ]

  past : (k : ℕ) → length log ≤ k → is_atomic_write log sites thread k ≡ false
  past k ge = ap (λ (made : Option Entry). is_write_of thread made (slice_get sites k)) (slice_get_past log k ge)

  pub none_left : (at : ℕ) → length log ≤ at → ((k : ℕ) → first < k → k < at → is_atomic_write log sites thread k ≡ false)
      → (k : ℕ) → first < k → is_atomic_write log sites thread k ≡ false
  none_left at end before k behind = elim (cases_lt k at) [
    | inl lt ↦ before k behind lt
    | inr ge ↦ past k (omega (arith, ge, end))
  ]
