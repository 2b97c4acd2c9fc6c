-- An entry that puts a number at its thread's port.
use Rattle.std.proofs.Common.{◌≡◌, ◌∙◌, ℕ, ◌<◌, ◌≤◌, ◌⊎◌, inl, inr, Bool, true, false, List, [], ◌++◌, Option, Some, None, length, set, get_or, refl}
use Rattle.std.proofs.Common.{sym, ap, nat_lt}
use Rattle.std.proofs.lemmas.Bool.{ltb-true, ltb-false}
use Rattle.std.proofs.lemmas.List.{set-set, get_or_default}
use Rattle.std.proofs.lemmas.Option.{slice_get_past}
use Rattle.types.specs.declared.event.Entry.{Entry}
use Rattle.show_said.specs.Lines.{letters_of, lines_in, left_of}
use Rattle.show_said.specs.Said.{items, line_at, letters_in, letters_by, stored_at, put_by, lines_behind, said_by}
use Rattle.show_said.specs.declared.said.Said.{Said}

pub side : (a b : ℕ) (t : Bool) → nat_lt a b ≡ t → (a < b) ⊎ (b ≤ a)
side a b true e = inl (ltb-true a b e)
side a b false e = inr (ltb-false a b e)

-- A thread without a port puts nothing anywhere.
pub puts_nothing : (ports : List ℕ) (e : Entry) → length ports ≤ e.thread → put_by ports e ≡ None
puts_nothing ports e past =
    ap (λ (port : Option ℕ). stored_at port e.event e.reply) (slice_get_past ports e.thread past)

has_port : (ports : List ℕ) (e : Entry) (value : ℕ) → Some value ≡ put_by ports e
    → (e.thread < length ports) ⊎ (length ports ≤ e.thread) → e.thread < length ports
has_port ports e value puts (inl within) = within
has_port ports e value puts (inr past) =
    absurd (let n : Some value ≡ None = puts ∙ puts_nothing ports e past in cc)

module _ (ports : List ℕ) (lines : List (List ℕ)) (e : Entry) (value : ℕ) (long : length lines ≡ length ports)
    (puts : Some value ≡ put_by ports e) (old text : List ℕ) (was : old ≡ get_or lines e.thread old) (is : text ≡ old) where
  within : e.thread < length lines
  within = let h = has_port ports e value puts (side e.thread (length ports) (nat_lt e.thread (length ports)) refl) in rw long h

  letters : letters_by ports e ≡ letters_of value
  letters = ap letters_in (sym puts)

  own : line_at lines e.thread ≡ text
  own = get_or_default lines e.thread [] old within ∙ sym was ∙ sym is

  pub line_set : (x y : List ℕ) → y ≡ left_of text (letters_of value) → set (set lines e.thread x) e.thread y ≡ lines_behind ports lines e
  line_set x y left =
      set-set lines e.thread x y
      ∙ ap (set lines e.thread) (left ∙ ap (λ (l : List ℕ). left_of l (letters_of value)) (sym own)
      ∙ ap (λ (l : List ℕ). left_of (line_at lines e.thread) l) (sym letters))

  pub lines_told : (line : ℕ) (before after : List Said) → after ≡ before ++ items e.thread line (lines_in text (letters_of value))
      → after ≡ before ++ said_by ports lines line e
  lines_told line before after told =
      told ∙ ap (λ (l : List (List ℕ)). before ++ items e.thread line l)
      (ap (λ (l : List ℕ). lines_in l (letters_of value)) (sym own)
      ∙ ap (λ (l : List ℕ). lines_in (line_at lines e.thread) l) (sym letters))
