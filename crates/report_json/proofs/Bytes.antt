-- The field of bytes, where they are wanted.
use Rattle.std.proofs.Common.{ℕ, ◌≡◌, ◌+◌, List, ◌∷◌, Bool, true, false, subst, arith}
use Rattle.std.specs.Int.{from_bool}
use Rattle.serde.specs.Event.{Log}
use Rattle.show_json.specs.Json.{Field}
use Rattle.show_json.specs.Sent.{SendsField, count}
use Rattle.report_json.specs.Ends.{bytes_field}

pub count_bytes : (is_wanted : Bool) (bytes : List ℕ) (fs : List Field)
    → count (bytes_field is_wanted bytes ∷ fs) ≡ from_bool is_wanted + count fs
count_bytes true bytes fs = omega arith
count_bytes false bytes fs = omega arith

pub same_bytes : (v w : Bool) (xs ys : List ℕ) (a b : Log) → v ≡ w → xs ≡ ys → SendsField (bytes_field v xs) a b
    → SendsField (bytes_field w ys) a b
same_bytes v w xs ys a b wanted are sent =
    subst (λ (zs : List ℕ). SendsField (bytes_field w zs) a b) are (subst (λ (u : Bool). SendsField (bytes_field u xs) a b) wanted sent)
