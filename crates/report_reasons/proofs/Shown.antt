-- What is shown of bytes.
use Rattle.std.proofs.Common.{◌≡◌, ◌∙◌, ℕ, zero, suc, min, ◌+◌, ◌<◌, List, [], ◌∷◌, ◌++◌, length, take, get_or, map}
use Rattle.std.proofs.Common.{encode_utf8, encode_utf8_all, refl, sym, ap, arith, append-nil, append_assoc}
use Rattle.std.proofs.lemmas.List.{take_more}
use Rattle.report_reasons.specs.Lines.{shown_bytes, shown_char}

append_one : (bytes : List ℕ) (b : ℕ) → shown_bytes (bytes ++ b ∷ []) ≡ shown_bytes bytes ++ encode_utf8 (shown_char b)
append_one [] b = append-nil (encode_utf8 (shown_char b))
append_one (a ∷ bytes) b = ap (λ (t : List ℕ). encode_utf8 (shown_char a) ++ t) (append_one bytes b)
    ∙ sym (append_assoc (encode_utf8 (shown_char a)) (shown_bytes bytes) (encode_utf8 (shown_char b)))

-- One more byte is shown behind those before it.
pub one_more : (bytes : List ℕ) (i : ℕ) → i < length bytes
    → shown_bytes (take i bytes) ++ encode_utf8 (shown_char (get_or bytes i 0)) ≡ shown_bytes (take (i + 1) bytes)
one_more bytes i lt = sym (ap shown_bytes (take_more bytes i 0 lt) ∙ append_one (take i bytes) (get_or bytes i 0))
