-- The last entry that gives a block out, by going through the log.
use Rattle.std.proofs.Common.{◌≡◌, ◌<◌, ◌+◌, ℕ, Option, None, Some, inl, inr}
use Rattle.std.proofs.Common.{refl, subst, arith}
use Rattle.std.proofs.lemmas.Bool.{cases_lt}
use Rattle.show_rows.specs.declared.listing.Shown.{Shown}
use Rattle.show_race_words.specs.declared.blocks.Block.{Block}
use Rattle.show_race_words.specs.Blocks.{IsLastGiven, into_given}

module _ (shown : Shown) (byte : ℕ) where
  none_more : (first : ℕ) → into_given shown byte first ≡ None → (k : ℕ)
      → (k < first → into_given shown byte k ≡ None) → k < first + 1 → into_given shown byte k ≡ None
  none_more first here k before within = elim (cases_lt k first) [
    | inl lt ↦ before lt
    | inr ge ↦ subst (λ (n : ℕ). into_given shown byte n ≡ None) (omega (arith, ge, within)) here
  ]

  -- the entry at the next place gives none out
  pub none_next : (first : ℕ) (last : Option Block) → IsLastGiven shown byte first last → into_given shown byte first ≡ None
      → IsLastGiven shown byte (first + 1) last
  none_next first None before here = λ k within. none_more first here k (before k) within
  none_next first (Some block) before here = record {
    byte_is = before.byte_is;
    before = omega (arith, before.before);
    into_is = before.into_is;
    last = λ k behind within. none_more first here k (before.last k behind) within;
  }

  -- or it gives this one out
  pub given_next : (first into : ℕ) → into_given shown byte first ≡ Some into
      → IsLastGiven shown byte (first + 1) (Some (record { byte = byte; into = into; at = first }))
  given_next first into is = record {
    byte_is = refl;
    before = omega arith;
    into_is = is;
    last = λ k behind within. absurd (omega (arith, behind, within));
  }
