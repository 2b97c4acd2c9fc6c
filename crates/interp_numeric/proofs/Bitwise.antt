-- Operations on each two bits at the same place.
use Rattle.std.proofs.Common.{◌≡◌, ℕ, zero, suc, ◌+◌, ◌%◌, ◌^◌, ◌<◌, ◌∷◌, min, max, refl, sym, ap, ap₂, ◌∙◌, bit_and, bit_or, bit_xor, mod-eq_of_lt, arith}
use Rattle.std.proofs.lemmas.Nat.{and_le_l, or_lt, xor_lt}
use Rattle.std.proofs.lemmas.Nat.Bits.{bit_at_and, bit_at_or, bit_at_xor}
use Rattle.std.specs.Int.{bit_at}
use Rattle.interp_numeric.specs.Bits.{ibits, of_ibits, pointwise}
use Rattle.interp_numeric.specs.Integers.{iand, ior, ixor}
use Rattle.interp_numeric.proofs.BitLists.{of_ibits-ibits}

-- an operation on numbers that works on each bit
pointwise-ibits : (f g : ℕ → ℕ → ℕ) → ((a b n : ℕ) → bit_at (g a b) n ≡ f (bit_at a n) (bit_at b n)) → (n a b : ℕ)
    → pointwise f (ibits n a) (ibits n b) ≡ ibits n (g a b)
unfolding ibits pointwise
pointwise-ibits f g h zero a b = refl
pointwise-ibits f g h (suc n) a b = ap₂ (λ d bits. d ∷ bits) (sym (h a b n)) (pointwise-ibits f g h n a b)

whole : (f g : ℕ → ℕ → ℕ) → ((a b n : ℕ) → bit_at (g a b) n ≡ f (bit_at a n) (bit_at b n)) → (N a b : ℕ)
    → g a b < 2 ^ N → of_ibits (pointwise f (ibits N a) (ibits N b)) ≡ g a b
whole f g h N a b fits = ap of_ibits (pointwise-ibits f g h N a b) ∙ of_ibits-ibits N (g a b) ∙ mod-eq_of_lt fits

pub iand-is : (N i j : ℕ) → i < 2 ^ N → iand N i j ≡ bit_and i j
unfolding iand
iand-is N i j fits = whole min bit_and bit_at_and N i j (let l = and_le_l i j in omega arith)

pub ior-is : (N i j : ℕ) → i < 2 ^ N → j < 2 ^ N → ior N i j ≡ bit_or i j
unfolding ior
ior-is N i j p q = whole max bit_or bit_at_or N i j (or_lt N i j p q)

pub ixor-is : (N i j : ℕ) → i < 2 ^ N → j < 2 ^ N → ixor N i j ≡ bit_xor i j
unfolding ixor
ixor-is N i j p q = whole (λ d e. (d + e) % 2) bit_xor bit_at_xor N i j (xor_lt N i j p q)
