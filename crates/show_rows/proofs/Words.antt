-- A number in at most 8 bytes, by the word that has them below zeros.
use Rattle.std.proofs.Common.{◌≡◌, ◌≤◌, ℕ, List, [], ◌∷◌, ◌++◌, length, drop, replicate, refl, arith}
use Rattle.std.specs.Int.{w64, from_le_bytes}
use Rattle.shared_memory.specs.Numbers.{le_number}

pub le_word : (xs : List ℕ) → length xs ≤ 8 → from_le_bytes w64 (xs ++ drop (length xs) (replicate 8 0)) ≡ le_number xs
le_word [] few = refl
le_word (a ∷ []) few = omega arith
le_word (a ∷ b ∷ []) few = omega arith
le_word (a ∷ b ∷ c ∷ []) few = omega arith
le_word (a ∷ b ∷ c ∷ d ∷ []) few = omega arith
le_word (a ∷ b ∷ c ∷ d ∷ e ∷ []) few = omega arith
le_word (a ∷ b ∷ c ∷ d ∷ e ∷ f ∷ []) few = omega arith
le_word (a ∷ b ∷ c ∷ d ∷ e ∷ f ∷ g ∷ []) few = omega arith
le_word (a ∷ b ∷ c ∷ d ∷ e ∷ f ∷ g ∷ h ∷ []) few = omega arith
le_word (a ∷ b ∷ c ∷ d ∷ e ∷ f ∷ g ∷ h ∷ i ∷ more) few = absurd (omega (arith, few))
