-- Integers as sequences of bits (Core specification 1.0, section 4.3.1, "Integers").
use Rattle.std.specs.Prelude.{ℕ, zero, suc, ◌+◌, ◌*◌, ◌^◌, List, [], ◌∷◌, length}
use Rattle.std.specs.Int.{bit_at}

-- The bits of an integer, so many, the most significant first.
unfoldable pub ibits : ℕ → ℕ → List ℕ
ibits zero i = []
ibits (suc n) i = bit_at i n ∷ ibits n i

-- The integer of a sequence of bits: each bit counts 2 to the power of the number of bits behind it.
unfoldable pub of_ibits : List ℕ → ℕ
of_ibits [] = 0
of_ibits (d ∷ bits) = d * 2 ^ length bits + of_ibits bits

-- What an operation on two bits gives at each place of two sequences.
unfoldable pub pointwise : (ℕ → ℕ → ℕ) → List ℕ → List ℕ → List ℕ
pointwise f [] ys = []
pointwise f (x ∷ xs) [] = []
pointwise f (x ∷ xs) (y ∷ ys) = f x y ∷ pointwise f xs ys

-- The most significant bit, and 0 where there is none.
unfoldable pub first_bit : List ℕ → ℕ
first_bit [] = 0
first_bit (d ∷ bits) = d
