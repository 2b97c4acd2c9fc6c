-- How large a number of some bytes may be.
use Rattle.std.proofs.Common.{ℕ, zero, suc, ◌+◌, ◌*◌, ◌^◌, ◌<◌, ◌≤◌, arith}

-- One byte more than seven fits in 64 bits.
pub one_more : (n m : ℕ) → n ≤ 7 → m < 256 ^ n → 256 * m + 255 < 2 ^ 64
one_more zero m le h = omega (arith, h)
one_more (suc zero) m le h = omega (arith, h)
one_more (suc (suc zero)) m le h = omega (arith, h)
one_more (suc (suc (suc zero))) m le h = omega (arith, h)
one_more (suc (suc (suc (suc zero)))) m le h = omega (arith, h)
one_more (suc (suc (suc (suc (suc zero))))) m le h = omega (arith, h)
one_more (suc (suc (suc (suc (suc (suc zero)))))) m le h = omega (arith, h)
one_more (suc (suc (suc (suc (suc (suc (suc zero))))))) m le h = omega (arith, h)
one_more (suc (suc (suc (suc (suc (suc (suc (suc n)))))))) m le h = absurd (omega (arith, le))
