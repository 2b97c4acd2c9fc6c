-- Comparisons by the machine's unsigned and signed types.
use Rattle.std.proofs.Common.{◌≡◌, ℕ, ◌^◌, ◌<◌, Bool, true, false, refl, sym, ap, ap₂, ◌∙◌}
use Rattle.std.specs.Prelude.{not, nat_eq, nat_lt, nat_le, ℤ, int_lt, int_le}
use Rattle.std.specs.Int.{Width, cast_signed, cast_unsigned, from_bool}
use mir.Val.{bits}
use Rattle.types.specs.declared.operators.CompareOp.{CompareOp}
use Rattle.types.specs.declared.operators.CompareOp.TheVariants as compare
use Rattle.interp_numeric.specs.Integers.{signed, truth}
use Rattle.interp_numeric.specs.Results.{compare_result}
use Rattle.interp_numeric.proofs.Signs.{signed-is, passed}

-- whether a comparison holds, of two integers with their signed readings
abbrev holds : CompareOp → ℕ → ℕ → ℤ → ℤ → Bool
holds compare.Eq i j l r = nat_eq i j
holds compare.Ne i j l r = not (nat_eq i j)
holds compare.LtS i j l r = int_lt l r
holds compare.LtU i j l r = nat_lt i j
holds compare.GtS i j l r = int_lt r l
holds compare.GtU i j l r = nat_lt j i
holds compare.LeS i j l r = int_le l r
holds compare.LeU i j l r = nat_le i j
holds compare.GeS i j l r = int_le r l
holds compare.GeU i j l r = nat_le j i

holds-is : (N : ℕ) (op : CompareOp) (i j : ℕ) → truth (holds op i j (signed N i) (signed N j)) ≡ compare_result N op i j
holds-is N compare.Eq i j = refl
holds-is N compare.Ne i j = refl
holds-is N compare.LtS i j = refl
holds-is N compare.LtU i j = refl
holds-is N compare.GtS i j = refl
holds-is N compare.GtU i j = refl
holds-is N compare.LeS i j = refl
holds-is N compare.LeU i j = refl
holds-is N compare.GeS i j = refl
holds-is N compare.GeU i j = refl

byte-is : (b : Bool) → from_bool b ≡ truth b
byte-is true = refl
byte-is false = refl

-- as the machine compares: l and r are the signed readings
pub compared : (w : Width) (op : CompareOp) (i j : ℕ) (l r : ℤ) (b : Bool) (answer : ℕ) → i < 2 ^ bits w
    → j < 2 ^ bits w → l ≡ cast_signed w i → r ≡ cast_signed w j → answer ≡ from_bool b
    → b ≡ holds op i j (cast_signed w (cast_unsigned w l)) (cast_signed w (cast_unsigned w r))
    → answer ≡ compare_result (bits w) op i j
compared w op i j l r b answer p q e f is test =
    let el : cast_signed w (cast_unsigned w l) ≡ signed (bits w) i = passed w i l p e ∙ sym (signed-is w i p) in
    let er : cast_signed w (cast_unsigned w r) ≡ signed (bits w) j = passed w j r q f ∙ sym (signed-is w j q) in
    is ∙ byte-is b ∙ ap truth (test ∙ ap₂ (holds op i j) el er) ∙ holds-is (bits w) op i j
