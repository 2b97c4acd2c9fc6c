-- Names as bytes.
use Rattle.std.proofs.Common.{◌≡◌, ℕ, ◌+◌, ◌/◌, ◌%◌, Bool, true, false, List, [], ◌∷◌, ◌++◌, Option, Some, None, Result, refl, ap, subst, arith}
use Rattle.std.specs.Prelude.{length, ◌==◌, OnOk}
use Rattle.std.specs.Io.KnownBytes.{Appends}
use Rattle.std.proofs.lemmas.Bool.Decides.{nat_tests}
use Rattle.std.specs.Str.{IsUtf8, is_utf8}
use Rattle.std.proofs.lemmas.Str.{is_utf8-from_IsUtf8, IsUtf8-from_is_utf8}
use Rattle.replay_forms.specs.Texts.{hex_digit, hex_text, pieces}
use Rattle.replay_text.specs.Text.{name_word}
use Rattle.replay_text.specs.Reading.{named}

pub utf8_named : (bytes : List ℕ) → (length bytes ≡ 0 → ⊥) → IsUtf8 bytes → named bytes ≡ Some bytes
utf8_named [] some u = absurd (some refl)
utf8_named (b ∷ bytes) some u = rw (is_utf8-from_IsUtf8 (b ∷ bytes) u) refl

pub empty_named : (bytes : List ℕ) → length bytes ≡ 0 → named bytes ≡ None
empty_named [] e = refl
empty_named (b ∷ bytes) e = absurd cc

is_false : (bytes : List ℕ) (t : Bool) → is_utf8 bytes ≡ t → (IsUtf8 bytes → ⊥) → t ≡ false
is_false bytes true e h = absurd (h (IsUtf8-from_is_utf8 bytes e))
is_false bytes false e h = refl

pub no_name : (bytes : List ℕ) → (IsUtf8 bytes → ⊥) → named bytes ≡ None
no_name [] h = refl
no_name (b ∷ bytes) h = rw (is_false (b ∷ bytes) (is_utf8 (b ∷ bytes)) refl h) refl

abbrev pub hex_piece : ℕ → ℕ → List ℕ
hex_piece place byte = hex_digit (byte / 16) ∷ hex_digit (byte % 16) ∷ []

hex_pieces : (i : ℕ) (bytes : List ℕ) → pieces hex_piece i bytes ≡ hex_text bytes
hex_pieces i [] = refl
hex_pieces i (b ∷ bytes) = ap (λ (t : List ℕ). hex_piece i b ++ t) (hex_pieces (i + 1) bytes)

pub not_none : (n : ℕ) → (n == 0) ≡ false → n ≡ 0 → ⊥
not_none n e z = absurd (grind (arith, nat_tests, e, z))

pub name_pieces : (name : List ℕ) → (length name ≡ 0 → ⊥) → pieces hex_piece 0 name ≡ name_word name
name_pieces [] some = absurd (some refl)
name_pieces (b ∷ bytes) some = hex_pieces 0 (b ∷ bytes)

pub no_word : (name : List ℕ) → length name ≡ 0 → name_word name ≡ 45 ∷ []
no_word [] e = refl
no_word (b ∷ bytes) e = absurd cc

pub name_written : {E : Type 0} (r : Result (Unit {0}) E) (a b : Option (List ℕ)) (name : List ℕ)
    → (length name == 0) ≡ false → OnOk r (Appends a b (pieces hex_piece 0 name))
    → OnOk r (Appends a b (name_word name))
name_written r a b name e h = subst (λ (t : List ℕ). OnOk r (Appends a b t)) (name_pieces name (λ z. not_none (length name) e z)) h

pub never : false ≡ true → ⊥
never e = cc

pub not_empty : (xs ys : List ℕ) (b : Bool) → xs ≡ ys → b ≡ (length xs == 0) → b ≡ false → length ys ≡ 0 → ⊥
not_empty xs ys b same is no_more z = absurd (grind (arith, nat_tests, ap length same, is, no_more, z))
