-- Characters, one behind the other.
use Rattle.std.proofs.Common.{◌≡◌, ℕ, List, [], ◌∷◌, ◌++◌, length, map, IsUtf8, chars, encode_utf8, encode_utf8_all}
use Rattle.std.proofs.Common.{sym, ap, ◌∙◌, append_assoc, arith}
use Rattle.std.proofs.lemmas.List.{append-nil}
use Rattle.std.proofs.lemmas.Str.{chars-nil, chars_past_char}
use Rattle.show_text.specs.Plain.{plain_char}

pub one_more : (x text rest t : List ℕ) (c : ℕ) → IsUtf8 text → text ≡ encode_utf8 c ++ rest
    → x ++ encode_utf8_all (map plain_char (chars text)) ≡ t
    → (x ++ encode_utf8 (plain_char c)) ++ encode_utf8_all (map plain_char (chars rest)) ≡ t
one_more x text rest t c utf8 parts h =
    append_assoc x (encode_utf8 (plain_char c)) (encode_utf8_all (map plain_char (chars rest)))
    ∙ (ap (λ (cs : List ℕ). x ++ encode_utf8_all (map plain_char cs)) (sym (chars_past_char text rest c utf8 parts)) ∙ h)

pub nothing_left : (x t rest : List ℕ) → length rest ≡ 0 → x ++ encode_utf8_all (map plain_char (chars rest)) ≡ t → x ≡ t
nothing_left x t [] e h = sym (append-nil x) ∙ (ap (λ (cs : List ℕ). x ++ encode_utf8_all (map plain_char cs)) (sym chars-nil) ∙ h)
nothing_left x t (b ∷ bs) e h = let no : ⊥ = omega (arith, e) in absurd no
