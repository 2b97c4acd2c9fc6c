-- Letters that are heard one after the other.
use Rattle.std.proofs.Common.{◌≡◌, ◌∙◌, ℕ, ◌+◌, ◌<◌, Bool, true, false, List, [], ◌∷◌, ◌++◌, cond, length, take, get_or, refl, sym, ap, subst}
use Rattle.std.proofs.Common.{append_assoc, nat_eq}
use Rattle.std.proofs.lemmas.List.{map-append, append-nil}
use Rattle.std.specs.List.{filter}
use Rattle.std.proofs.lemmas.List.Elements.{filter_more}
use Rattle.show_said.specs.Lines.{is_letter, lines_in, left_of, some_line}
use Rattle.show_said.specs.Said.{items}
use Rattle.show_said.specs.Hears.{Hears}
use Rattle.show_said.specs.declared.letters.Voice.{Voice}
use Rattle.show_said.specs.declared.said.Said.{Said}

left_step : (a z : Bool) (line xs ys : List ℕ) (b : ℕ) → left_of [] (xs ++ ys) ≡ left_of (left_of [] xs) ys
    → left_of (line ++ b ∷ []) (xs ++ ys) ≡ left_of (left_of (line ++ b ∷ []) xs) ys
    → cond a (left_of [] (xs ++ ys)) (cond z (left_of [] (xs ++ ys)) (left_of (line ++ b ∷ []) (xs ++ ys)))
    ≡ left_of (cond a (left_of [] xs) (cond z (left_of [] xs) (left_of (line ++ b ∷ []) xs))) ys
left_step true z line xs ys b new more = new
left_step false true line xs ys b new more = new
left_step false false line xs ys b new more = more

pub left_append : (line xs ys : List ℕ) → left_of line (xs ++ ys) ≡ left_of (left_of line xs) ys
left_append line [] ys = refl
left_append line (b ∷ xs) ys =
    left_step (nat_eq b 10) (nat_eq b 0) line xs ys b (left_append [] xs ys) (left_append (line ++ b ∷ []) xs ys)

lines_step : (a z : Bool) (line xs ys : List ℕ) (b : ℕ)
    → lines_in [] (xs ++ ys) ≡ lines_in [] xs ++ lines_in (left_of [] xs) ys
    → lines_in (line ++ b ∷ []) (xs ++ ys) ≡ lines_in (line ++ b ∷ []) xs ++ lines_in (left_of (line ++ b ∷ []) xs) ys
    → cond a (line ∷ lines_in [] (xs ++ ys))
    (cond z (some_line line ++ lines_in [] (xs ++ ys)) (lines_in (line ++ b ∷ []) (xs ++ ys)))
    ≡ cond a (line ∷ lines_in [] xs) (cond z (some_line line ++ lines_in [] xs) (lines_in (line ++ b ∷ []) xs))
    ++ lines_in (cond a (left_of [] xs) (cond z (left_of [] xs) (left_of (line ++ b ∷ []) xs))) ys
lines_step true z line xs ys b new more = ap (λ (l : List (List ℕ)). line ∷ l) new
lines_step false true line xs ys b new more =
    ap (λ (l : List (List ℕ)). some_line line ++ l) new
    ∙ sym (append_assoc (some_line line) (lines_in [] xs) (lines_in (left_of [] xs) ys))
lines_step false false line xs ys b new more = more

pub lines_append : (line xs ys : List ℕ) → lines_in line (xs ++ ys) ≡ lines_in line xs ++ lines_in (left_of line xs) ys
lines_append line [] ys = refl
lines_append line (b ∷ xs) ys =
    lines_step (nat_eq b 10) (nat_eq b 0) line xs ys b (lines_append [] xs ys) (lines_append (line ++ b ∷ []) xs ys)

-- What comes of letters and of those behind them.
pub hears_more : (v : Voice) (xs ys l m n : List ℕ) (s t u : List Said) → Hears v xs l s m t → Hears v ys m t n u
    → Hears v (xs ++ ys) l s n u
hears_more v xs ys l m n s t u one two = record {
  line_is = two.line_is ∙ ap (λ (k : List ℕ). left_of k ys) one.line_is ∙ sym (left_append l xs ys);
  said_is = two.said_is
      ∙ ap (λ (k : List Said). k ++ items v.thread v.line (lines_in m ys)) one.said_is
      ∙ append_assoc s (items v.thread v.line (lines_in l xs)) (items v.thread v.line (lines_in m ys))
      ∙ ap (λ (k : List Said). s ++ k) (
      ap (λ (k : List ℕ). items v.thread v.line (lines_in l xs) ++ items v.thread v.line (lines_in k ys)) one.line_is
      ∙ sym (map-append _ (lines_in l xs) (lines_in (left_of l xs) ys))
      ∙ ap (items v.thread v.line) (sym (lines_append l xs ys)));
}

pub hears_none : (v : Voice) (l : List ℕ) (s : List Said) → Hears v [] l s l s
hears_none v l s = record { line_is = refl; said_is = sym (append-nil s) }

-- A line with a letter is told.
pub is_some_line : (line : List ℕ) → (length line ≡ 0 → ⊥) → some_line line ≡ line ∷ []
is_some_line [] some = absurd (some refl)
is_some_line (b ∷ line) some = refl

pub is_no_line : (line : List ℕ) → length line ≡ 0 → line ≡ []
is_no_line [] none = refl
is_no_line (b ∷ line) none = absurd cc

-- The letters of a row of bytes, one byte after the other.
pub letter_heard : (v : Voice) (bytes : List ℕ) (i d : ℕ) → i < length bytes → (l m n : List ℕ) (s t u : List Said)
    → Hears v (filter is_letter (take i bytes)) l s m t → Hears v (filter is_letter (get_or bytes i d ∷ [])) m t n u
    → Hears v (filter is_letter (take (i + 1) bytes)) l s n u
letter_heard v bytes i d less l m n s t u before one =
    subst (λ (k : List ℕ). Hears v k l s n u) (sym (filter_more is_letter bytes i d less))
    (hears_more v (filter is_letter (take i bytes)) (filter is_letter (get_or bytes i d ∷ [])) l m n s t u before one)
