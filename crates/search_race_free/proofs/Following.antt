-- The next states, of one thread after the other.
use Rattle.std.proofs.Common.{◌≡◌, ◌⊎◌, inl, inr, ℕ, ◌+◌, ◌<◌, ◌≤◌, List, [], ◌∷◌, ◌++◌, length, Option, Some, None, sym, ◌∙◌, subst, arith}
use Rattle.std.proofs.lemmas.Bool.{cases_lt}
use Rattle.std.proofs.lemmas.List.Elements.{Contains-push, Contains-push_cases, Contains-append_left}
use Rattle.std.proofs.lemmas.Option.{none-some}
use Rattle.schedule.specs.System.{State}
use Rattle.search_reach.specs.declared.explores.NextState.{NextState}
use Rattle.search_reach.proofs.Ascending.{ascend-none, ascend-same, ascend-more}
use Rattle.search_settled.specs.declared.access.NextAccess.{NextAccess}
use Rattle.search_settled.specs.declared.flat.RestingState.{RestingState}
use Rattle.search_settled.specs.Threads.{ThreadSystem}
use Rattle.search_race_free.specs.declared.owning.Owning.{Owning}
use Rattle.search_race_free.specs.Touches.{access_at}
use Rattle.search_race_free.specs.Reduced.{wanted_in, IsResting, ComesOf, HasReduced}
use Rattle.search_race_free.specs.Search.{AreWanted, WantsSome, HasReducedBelow}
use Rattle.search_race_free.proofs.Wanting.{past-next}

split : (n i : ℕ) → n < i + 1 → (n < i) ⊎ (n ≡ i)
split n i low = elim (cases_lt n i) [ inl h ↦ inl h | inr h ↦ inr (omega (arith, h, low)) ]

module _ {X T E V A G H M : Type 0} (k : ThreadSystem X T E V A G H M) (s : Owning (RestingState G H)) where
  -- what the list says of a thread
  pub wants-at : (before : List (Option NextAccess)) (n : ℕ) (a : NextAccess) → AreWanted k s.flat before → access_at before n ≡ Some a → WantsSome k s.flat n a
  wants-at before n a are h z at = sym (are z at n) ∙ h

  pub below-none : HasReducedBelow k s 0 []
  below-none = record {
    all = λ z at n low. absurd (omega (arith, low));
    each = λ x among. absurd (omega (arith, among.1));
    ascend = ascend-none;
  }

  -- a thread that can't go on
  pub below-same : (before : List (Option NextAccess)) (i : ℕ) (xs : List (NextState (Owning (RestingState G H)))) → AreWanted k s.flat before →
      access_at before i ≡ None
      → HasReducedBelow k s i xs → HasReducedBelow k s (i + 1) xs
  below-same before i xs are none so = record {
    all = λ z at n low a wants. elim (split n i low) [
      | inl h ↦ so.all z at n h a wants
      | inr same ↦ absurd (none-some a (sym none ∙ (are z at i ∙ subst (λ m. wanted_in k z m ≡ Some a) same wants)))
    ];
    each = so.each;
    ascend = ascend-same i xs so.ascend;
  }

  -- a thread that can
  pub below-more : (i : ℕ) (xs : List (NextState (Owning (RestingState G H)))) (y : NextState (Owning (RestingState G H))) → y.thread ≡ i →
      ComesOf k s i y.state
      → HasReducedBelow k s i xs → HasReducedBelow k s (i + 1) (xs ++ y ∷ [])
  below-more i xs y is of so = record {
    all = λ z at n low a wants. elim (split n i low) [
      | inl h ↦ (let f = so.all z at n h a wants in (f.0, Contains-append_left xs (y ∷ []) f.0 f.1, f.2))
      | inr same ↦ (y, Contains-push xs y, is ∙ sym same)
    ];
    each = λ x among. elim (Contains-push_cases xs y x among) [
      | inl before ↦ so.each x before
      | inr same ↦ subst (λ (v : NextState (Owning (RestingState G H))). ComesOf k s v.thread v.state) same (subst (λ t. ComesOf k s t y.state) (sym is) of)
    ];
    ascend = ascend-more i xs y is so.ascend;
  }

  pub below-all : (i : ℕ) (xs : List (NextState (Owning (RestingState G H)))) → HasReducedBelow k s i xs → length s.flat.threads.items ≤ i → HasReduced k s xs
  below-all i xs so past = record {
    all = λ z at n a wants. so.all z at n (low z at n a wants) a wants;
    each = so.each;
    ascend = so.ascend.ascend;
  }
    where
      low : (z : State X T) → IsResting k s.flat z → (n : ℕ) (a : NextAccess) → wanted_in k z n ≡ Some a → n < i
      low z at n a wants = elim (cases_lt n i) [
        | inl h ↦ h
        | inr beyond ↦ absurd (none-some a (sym (past-next k s.flat z at n (omega (arith, past, beyond))) ∙ wants))
      ]
