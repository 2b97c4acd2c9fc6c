-- Where a span is among spans in order.
use Rattle.std.proofs.Common.{◌≡◌, ℕ, ◌<◌, ◌≤◌, nat_le, nat_lt, true, false, List, length, get_or, sym, ◌∙◌, arith, inl, inr}
use Rattle.std.proofs.lemmas.Bool.{cases_lt}
use Rattle.std.proofs.lemmas.Bool.Decides.{nat_tests}
use Rattle.std.proofs.lemmas.List.{get_or_default}
use Rattle.std.proofs.lemmas.List.Folds.{list_any_at, list_any_none}
use Rattle.std.specs.List.Sorted.{IsPartitionedBy, IsPartitionPoint}
use Rattle.selection.specs.declared.choice.NumberSpan.{NumberSpan}
use Rattle.selection.specs.Choices.{meets, some_meets}
use Rattle.selection.specs.Spans.{AreInOrder}

is_below : (a b : ℕ) → a < b → nat_lt a b ≡ true
is_below a b lt = grind (arith, nat_tests, lt)

below : (a b : ℕ) → nat_lt a b ≡ true → a < b
below a b is = grind (arith, nat_tests, is)

not_below : (a b : ℕ) → nat_lt a b ≡ false → b ≤ a
not_below a b is = grind (arith, nat_tests, is)

pub not_within : (a b : ℕ) → b ≤ a → nat_lt a b ≡ false
not_within a b le = grind (arith, nat_tests, le)

-- Where one ends in front of a number, so do those before it.
pub parted : (xs : List NumberSpan) (n : ℕ) → AreInOrder xs → IsPartitionedBy (λ (s : NumberSpan). nat_lt s.last n) xs
parted xs n order i j d le lt ended = elim (cases_lt i j) [
  | inl less ↦
      let apart : (get_or xs i d).last < (get_or xs j d).first = order.apart i j d less lt in
      let has : (get_or xs j d).first ≤ (get_or xs j d).last = order.have_numbers j d lt in
      let ends : (get_or xs j d).last < n = below (get_or xs j d).last n ended in
      is_below (get_or xs i d).last n (omega (arith, apart, has, ends))
  | inr more ↦ let same : i ≡ j = omega (arith, le, more) in rw same ended
]

begins_later : (xs : List NumberSpan) (i j : ℕ) (d : NumberSpan) → AreInOrder xs → i ≤ j → j < length xs
    → (get_or xs i d).first ≤ (get_or xs j d).first
begins_later xs i j d order le lt = elim (cases_lt i j) [
  | inl less ↦
      let apart : (get_or xs i d).last < (get_or xs j d).first = order.apart i j d less lt in
      let has : (get_or xs i d).first ≤ (get_or xs i d).last = order.have_numbers i d (omega (arith, less, lt)) in
      omega (arith, apart, has)
  | inr more ↦ let same : i ≡ j = omega (arith, le, more) in rw same (omega arith)
]

ended : (s other : NumberSpan) → s.last < other.first → meets s other ≡ false
ended s other h = grind (arith, nat_tests, h)

begins_behind : (s other : NumberSpan) → other.last < s.first → meets s other ≡ false
begins_behind s other h = grind (arith, nat_tests, h)

they_meet : (s other : NumberSpan) → s.first ≤ other.last → other.first ≤ s.last → meets s other ≡ true
they_meet s other h k = grind (arith, nat_tests, h, k)

module _ (xs : List NumberSpan) (other : NumberSpan) (at : ℕ)
    (point : IsPartitionPoint (λ (s : NumberSpan). nat_lt s.last other.first ≡ true) (λ s. nat_lt s.last other.first ≡ false) xs at) where
  -- The first that does not end before a span meets it, or none does.
  pub met_at_point : (d : NumberSpan) → AreInOrder xs → at < length xs → nat_le (get_or xs at d).first other.last ≡ some_meets xs other
  met_at_point d order lt = elim (cases_lt other.last (get_or xs at d).first) [
    | inl behind ↦
        let none : nat_le (get_or xs at d).first other.last ≡ false = grind (arith, nat_tests, behind) in
        none ∙ sym (list_any_none (λ (s : NumberSpan). meets s other) xs (λ k e len. elim (cases_lt k at) [
          | inl before ↦ ended (get_or xs k e) other (below (get_or xs k e).last other.first (point.0 k e (omega arith) before))
          | inr more ↦
              let first : (get_or xs at e).first ≤ (get_or xs k e).first = begins_later xs at k e order more len in
              let later : other.last < (get_or xs at e).first = rw (get_or_default xs at e d lt) behind in
              begins_behind (get_or xs k e) other (omega (arith, first, later))
        ]))
    | inr begins ↦
        let one : nat_le (get_or xs at d).first other.last ≡ true = grind (arith, nat_tests, begins) in
        let ends : other.first ≤ (get_or xs at d).last = not_below (get_or xs at d).last other.first (point.1 at d (omega arith) lt) in
        one ∙ sym (list_any_at (λ (s : NumberSpan). meets s other) xs at d lt (they_meet (get_or xs at d) other begins ends))
  ]

  pub none_at_end : length xs ≤ at → some_meets xs other ≡ false
  none_at_end le = list_any_none (λ (s : NumberSpan). meets s other) xs
      (λ k e len. ended (get_or xs k e) other (below (get_or xs k e).last other.first (point.0 k e (omega arith) (omega (arith, len, le)))))
