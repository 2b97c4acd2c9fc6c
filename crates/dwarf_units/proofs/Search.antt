-- Where a place is among spans in order.
use Rattle.std.proofs.Common.{◌≡◌, ℕ, ◌+◌, ◌<◌, ◌≤◌, true, false, List, length, get_or, find, Some, None, arith, inl, inr}
use Rattle.std.proofs.lemmas.Bool.{cases_lt}
use Rattle.std.proofs.lemmas.Bool.Decides.{nat_tests}
use Rattle.std.proofs.lemmas.List.{get_or_default}
use Rattle.dwarf_units.specs.declared.spans.Spanned.{Spanned}
use Rattle.dwarf_units.specs.Spans.{holds, AreInOrder}
use Rattle.dwarf_units.proofs.Find.{found_at, none_found}

ended : (s : Spanned) (place : ℕ) → s.end ≤ place → holds place s ≡ false
ended s place h = grind (arith, nat_tests, h)

begins_behind : (s : Spanned) (place : ℕ) → place < s.start → holds place s ≡ false
begins_behind s place h = grind (arith, nat_tests, h)

has_place : (s : Spanned) (place : ℕ) → s.start ≤ place → place < s.end → holds place s ≡ true
has_place s place h k = grind (arith, nat_tests, h, k)

-- Where one has ended so have those in front of it.
pub ended_before : (xs : List Spanned) (m place : ℕ) (e : Spanned) → AreInOrder xs → m < length xs → (get_or xs m e).end ≤ place
    → (k : ℕ) (d : Spanned) → k < m + 1 → (get_or xs k d).end ≤ place
ended_before xs m place e order lt h k d below =
    let here : (get_or xs m d).end ≤ place = rw (get_or_default xs m d e lt) h in
    elim (cases_lt k m) [
      | inl less ↦
          let apart : (get_or xs k d).end ≤ (get_or xs m d).start = order.apart k m d less lt in
          let has : (get_or xs m d).start < (get_or xs m d).end = order.have_places m d lt in
          omega (arith, apart, has, here)
      | inr more ↦ let same : k ≡ m = omega (arith, below, more) in rw same here
    ]

-- Where one has not ended, none behind it has.
pub not_ended_behind : (xs : List Spanned) (m place : ℕ) (e : Spanned) → AreInOrder xs → m < length xs → place < (get_or xs m e).end
    → (k : ℕ) (d : Spanned) → m ≤ k → k < length xs → place < (get_or xs k d).end
not_ended_behind xs m place e order lt h k d behind len =
    let here : place < (get_or xs m d).end = rw (get_or_default xs m d e lt) h in
    elim (cases_lt m k) [
      | inl less ↦
          let apart : (get_or xs m d).end ≤ (get_or xs k d).start = order.apart m k d less len in
          let has : (get_or xs k d).start < (get_or xs k d).end = order.have_places k d len in
          omega (arith, apart, has, here)
      | inr more ↦ let same : k ≡ m = omega (arith, behind, more) in rw same here
    ]

-- The first that has not ended has the place, or none has it.
pub one_has : (xs : List Spanned) (place low : ℕ) (d : Spanned) → low < length xs
    → ((k : ℕ) (d : Spanned) → k < low → (get_or xs k d).end ≤ place) → place < (get_or xs low d).end → (get_or xs low d).start ≤ place
    → find (holds place) xs ≡ Some (get_or xs low d)
one_has xs place low d lt before ends begins =
    found_at (holds place) xs low d lt (λ k h. ended (get_or xs k d) place (before k d h)) (has_place (get_or xs low d) place begins ends)

pub all_ended : (xs : List Spanned) (place low : ℕ) (d : Spanned) → length xs ≤ low
    → ((k : ℕ) (d : Spanned) → k < low → (get_or xs k d).end ≤ place) → find (holds place) xs ≡ None
all_ended xs place low d le before =
    none_found (holds place) xs d (λ k h. ended (get_or xs k d) place (before k d (omega (arith, h, le))))

pub none_has : (xs : List Spanned) (place low : ℕ) (d : Spanned) → AreInOrder xs → low < length xs
    → ((k : ℕ) (d : Spanned) → k < low → (get_or xs k d).end ≤ place) → place < (get_or xs low d).start → find (holds place) xs ≡ None
none_has xs place low d order lt before begins =
    none_found (holds place) xs d (λ k h. elim (cases_lt k low) [
      | inl less ↦ ended (get_or xs k d) place (before k d less)
      | inr more ↦ elim (cases_lt low k) [
        | inl behind ↦
            let apart : (get_or xs low d).end ≤ (get_or xs k d).start = order.apart low k d behind h in
            let has : (get_or xs low d).start < (get_or xs low d).end = order.have_places low d lt in
            begins_behind (get_or xs k d) place (omega (arith, apart, has, begins))
        | inr same ↦
            let here : k ≡ low = omega (arith, more, same) in
            rw here (begins_behind (get_or xs low d) place begins)
      ]
    ])
