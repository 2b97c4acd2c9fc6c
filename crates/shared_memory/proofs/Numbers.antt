-- Numbers as bytes: how many there are, and what they spell.
use Rattle.std.proofs.Common.{◌≡◌, ℕ, zero, suc, ◌+◌, ◌*◌, ◌/◌, ◌%◌, ◌^◌, length, refl, sym, ap, arith}
use Rattle.std.proofs.lemmas.Nat.{mod-pow-add}
use Rattle.std.proofs.Math.Nat.{mod-one}
use Rattle.shared_memory.specs.Numbers.{le_number, le_bytes}

-- A number in so many bytes has so many bytes.
pub length-le_bytes : (width n : ℕ) → length (le_bytes width n) ≡ width
length-le_bytes zero n = refl
length-le_bytes (suc width) n = ap (λ k. suc k) (length-le_bytes width (n / 256))

-- The bytes of a number spell it modulo their width.
pub le_number-le_bytes : (width n : ℕ) → le_number (le_bytes width n) ≡ n % 2 ^ (8 * width)
le_number-le_bytes zero n = sym (mod-one n)
le_number-le_bytes (suc width) n =
    let e : 8 * suc width ≡ 8 * width + 8 = omega arith in
    rw (e, mod-pow-add n (8 * width) 8, le_number-le_bytes width (n / 256)) (omega arith)
