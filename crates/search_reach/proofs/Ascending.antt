-- Next states in the order of their threads, of one thread after the other.
use Rattle.std.specs.Prelude.{◌≡◌, ◌+◌, ◌<◌, ◌≤◌, ◌⊎◌, ℕ, List, [], ◌∷◌, ◌++◌, length, Contains, Some, refl}
use Rattle.std.specs.List.{slice_get}
use Rattle.std.proofs.Common.{ap, inl, inr, arith, length-append, ◌∙◌}
use Rattle.std.proofs.lemmas.Bool.{cases_lt}
use Rattle.std.proofs.lemmas.List.Elements.{Contains-push, Contains-push_cases, Contains-append_left}
use Rattle.std.proofs.lemmas.Option.{none-some, slice_get_within, slice_get-get_or}
use Rattle.search_reach.specs.declared.explores.NextState.{NextState}
use Rattle.search_reach.specs.Search.{Ascend, AscendBelow}
use Rattle.search_reach.proofs.Searching.{Begins, get_longer, get_shorter, here}
use Rattle.search_reach.proofs.Moving.{behind}
use Rattle.search_reach.proofs.Choosing.{slice_get-past}

module _ {S : Type 0} where
  pub ascend-none : AscendBelow {S = S} 0 []
  ascend-none = record {
    ascend = λ i j x y less at there. absurd (none-some x at);
    low = λ x c. absurd (omega (arith, c.1));
  }

  -- of a thread there is none
  pub ascend-same : (end : ℕ) (xs : List (NextState S)) → AscendBelow end xs → AscendBelow (end + 1) xs
  ascend-same end xs is = record { ascend = is.ascend; low = λ x c. (let low = is.low x c in omega (arith, low)) }

  -- the one at the end is that one
  last-is : (xs : List (NextState S)) (x y : NextState S) (j : ℕ) → length xs ≤ j → slice_get (xs ++ x ∷ []) j ≡ Some y → x ≡ y
  last-is xs x y j past at = by (Contains-push_cases [] x y (behind xs (x ∷ []) j y past at))
    where
      by : Contains [] y ⊎ (x ≡ y) → x ≡ y
      by (inl c) = absurd (omega (arith, c.1))
      by (inr same) = same

  -- where each thread is below that of the last one
  ascend-last : (xs : List (NextState S)) (x : NextState S) → Ascend xs → ((y : NextState S) → Contains xs y → y.thread < x.thread) → Ascend (xs ++ x ∷ [])
  ascend-last xs x is low i j a b less at there = by (cases_lt i (length xs)) (cases_lt j (length xs))
    where
      longer : Begins xs (xs ++ x ∷ [])
      longer = record { more = x ∷ []; is = refl }

      by : (i < length xs) ⊎ (length xs ≤ i) → (j < length xs) ⊎ (length xs ≤ j) → a.thread < b.thread
      by (inl p) (inl q) = is i j a b less (get_shorter xs (xs ++ x ∷ []) i a longer p at) (get_shorter xs (xs ++ x ∷ []) j b longer q there)
      by (inl p) (inr q) =
          let c = low a (here xs i a (get_shorter xs (xs ++ x ∷ []) i a longer p at)) in
          let same = last-is xs x b j q there in
          omega (arith, c, ap (λ (v : NextState S). v.thread) same)
      by (inr p) q =
          let within = slice_get_within (xs ++ x ∷ []) j b there in
          absurd (omega (arith, less, p, within, length-append xs (x ∷ [])))

  -- of a thread there is one
  pub ascend-more : (end : ℕ) (xs : List (NextState S)) (x : NextState S) → x.thread ≡ end → AscendBelow end xs → AscendBelow (end + 1) (xs ++ x ∷ [])
  ascend-more end xs x is was = record {
    ascend = ascend-last xs x was.ascend (λ y c. (let low = was.low y c in omega (arith, low, is)));
    low = λ y c. low y (Contains-push_cases xs x y c);
  }
    where
      low : (y : NextState S) → Contains xs y ⊎ (x ≡ y) → y.thread < end + 1
      low y (inl c) = let low = was.low y c in omega (arith, low)
      low y (inr same) = omega (arith, is, ap (λ (v : NextState S). v.thread) same)

  -- the last one is another of the same thread
  pub ascend-alike : (end : ℕ) (xs : List (NextState S)) (old new : NextState S) → new.thread ≡ old.thread → AscendBelow end (xs ++ old ∷ [])
      → AscendBelow end (xs ++ new ∷ [])
  ascend-alike end xs old new is was = record {
    ascend = ascend-last xs new before (λ y c. (let low = below y c in omega (arith, low, is)));
    low = λ y c. low y (Contains-push_cases xs new y c);
  }
    where
      longer : Begins xs (xs ++ old ∷ [])
      longer = record { more = old ∷ []; is = refl }

      before : Ascend xs
      before i j x y less at there =
          was.ascend i j x y less (get_longer xs (xs ++ old ∷ []) i x longer at) (get_longer xs (xs ++ old ∷ []) j y longer there)

      last : slice_get (xs ++ old ∷ []) (length xs) ≡ Some old
      last = slice_get-past xs (old ∷ []) (length xs) 0 (omega arith)

      below : (y : NextState S) → Contains xs y → y.thread < old.thread
      below y c =
          let at = slice_get-get_or xs c.0 y c.1 ∙ ap Some c.2 in
          was.ascend c.0 (length xs) y old c.1 (get_longer xs (xs ++ old ∷ []) c.0 y longer at) last

      low : (y : NextState S) → Contains xs y ⊎ (new ≡ y) → y.thread < end
      low y (inl c) = was.low y (Contains-append_left xs (old ∷ []) y c)
      low y (inr same) = let low = was.low old (Contains-push xs old) in omega (arith, low, is, ap (λ (v : NextState S). v.thread) same)
