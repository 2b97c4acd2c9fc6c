-- The entry that started a thread, by going through all.
use Rattle.std.proofs.Common.{◌≡◌, ◌<◌, ◌≤◌, ◌+◌, ◌&&◌, ℕ, false, List, Option, length, inl, inr, ap, subst, arith}
use Rattle.std.proofs.lemmas.Bool.{cases_lt}
use Rattle.std.proofs.lemmas.Option.{slice_get_past}
use Rattle.types.specs.declared.event.Entry.{Entry}
use Rattle.show_rows.specs.declared.listing.Story.{Story}
use Rattle.show_rows.specs.Listing.{context_at}
use Rattle.show_race_words.specs.Starts.{is_answered, is_spawn, is_start}

module _ (log : List Entry) (story : Story) (thread : ℕ) where
  pub none_next : (at : ℕ) → ((k : ℕ) → k < at → is_start log story thread k ≡ false) → is_start log story thread at ≡ false
      → (k : ℕ) → k < at + 1 → is_start log story thread k ≡ false
  none_next at before here k within = elim (cases_lt k at) [
    | inl lt ↦ before k lt
    | inr ge ↦ subst (λ (n : ℕ). is_start log story thread n ≡ false) (omega (arith, ge, within)) here
  ]

  past : (k : ℕ) → length log ≤ k → is_start log story thread k ≡ false
  past k ge = ap (λ (made : Option Entry). is_spawn made && is_answered (context_at story k) thread) (slice_get_past log k ge)

  pub none_left : (at : ℕ) → length log ≤ at → ((k : ℕ) → k < at → is_start log story thread k ≡ false)
      → (k : ℕ) → is_start log story thread k ≡ false
  none_left at end before k = elim (cases_lt k at) [
    | inl lt ↦ before k lt
    | inr ge ↦ past k (omega (arith, ge, end))
  ]
