-- Spans in order, and one more behind them.
use Rattle.std.proofs.Common.{◌≡◌, ℕ, ◌+◌, ◌<◌, ◌≤◌, All, List, [], ◌∷◌, ◌++◌, length, get_or, arith, length-append, inl, inr}
use Rattle.std.proofs.lemmas.Bool.{cases_lt}
use Rattle.std.proofs.lemmas.List.{get_or_append_left, get_or_push}
use Rattle.std.proofs.lemmas.List.Elements.{All-nil, All-push}
use Rattle.dwarf_units.specs.declared.spans.Spanned.{Spanned}
use Rattle.dwarf_units.specs.Spans.{HasPlace, EndsBy, AreApart, AreInOrder}

apart_more : (xs : List Spanned) (x : Spanned) (end : ℕ) → AreApart xs → All (EndsBy end) xs → end ≤ x.start → AreApart (xs ++ x ∷ [])
apart_more xs x end h e le i j d lt len =
    let size : length (xs ++ x ∷ []) ≡ length xs + 1 = length-append xs (x ∷ []) in
    let below : i < length xs = omega (arith, size, len, lt) in
    let first : get_or (xs ++ x ∷ []) i d ≡ get_or xs i d = get_or_append_left xs (x ∷ []) d i below in
    elim (cases_lt j (length xs)) [
      | inl within ↦ rw (first, get_or_append_left xs (x ∷ []) d j within) (h i j d lt within)
      | inr past ↦
          let last : length xs ≡ j = omega (arith, size, len, past) in
          let ends : (get_or xs i d).end ≤ end = e i d below in
          rw (first, get_or_push xs x d j last) (omega (arith, ends, le))
    ]

pub none_in_order : AreInOrder []
none_in_order = record { apart = λ i j d lt len. absurd (omega (arith, lt, len)); have_places = All-nil HasPlace }

pub one_more_in_order : (xs : List Spanned) (x : Spanned) (end : ℕ) → AreInOrder xs → All (EndsBy end) xs → end ≤ x.start → x.start < x.end →
    AreInOrder (xs ++ x ∷ [])
one_more_in_order xs x end h e le has = record {
  apart = apart_more xs x end h.apart e le;
  have_places = All-push HasPlace xs x h.have_places has;
}

pub one_more_ends : (xs : List Spanned) (x : Spanned) (end : ℕ) → All (EndsBy end) xs → end ≤ x.start → x.start < x.end → All (EndsBy x.end) (xs ++ x ∷ [])
one_more_ends xs x end e le has =
    All-push (EndsBy x.end) xs x (λ k d lt. let h : (get_or xs k d).end ≤ end = e k d lt in omega (arith, h, le, has)) (omega arith)
