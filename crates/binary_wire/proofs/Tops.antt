-- The greatest number of seven bits less.
use Rattle.std.proofs.Common.{◌≡◌, ℕ, zero, suc, ◌+◌, ◌*◌, ◌/◌, ◌^◌, ◌<◌, arith}
use Rattle.binary_wire.specs.Grammar.{IsTop, IsPower}

split : (bits top : ℕ) → top + 1 ≡ 2 ^ bits → 127 < top → (j : ℕ) × (top + 1 ≡ 128 * 2 ^ j)
split (suc (suc (suc (suc (suc (suc (suc j))))))) top e lt = (j, omega (arith, e))
split zero top e lt = absurd (omega (arith, e))
split (suc zero) top e lt = absurd (omega (arith, e))
split (suc (suc zero)) top e lt = absurd (omega (arith, e))
split (suc (suc (suc zero))) top e lt = absurd (omega (arith, e))
split (suc (suc (suc (suc zero)))) top e lt = absurd (omega (arith, e))
split (suc (suc (suc (suc (suc zero))))) top e lt = absurd (omega (arith, e))
split (suc (suc (suc (suc (suc (suc zero)))))) top e lt = absurd (omega (arith, e))

pub top_seven : (top : ℕ) → IsTop top → 127 < top → IsTop (top / 128)
top_seven top h lt = let s = split h.0 top h.1 lt in (s.0, omega (arith, s.1))

pub top_whole : (top : ℕ) → IsTop top → 127 < top → top + 1 ≡ 128 * (top / 128 + 1)
top_whole top h lt = let s = split h.0 top h.1 lt in omega (arith, s.1)

halved : (bits half : ℕ) → half ≡ 2 ^ bits → 64 < half → (j : ℕ) × (half ≡ 128 * 2 ^ j)
halved (suc (suc (suc (suc (suc (suc (suc j))))))) half e lt = (j, omega (arith, e))
halved zero half e lt = absurd (omega (arith, e))
halved (suc zero) half e lt = absurd (omega (arith, e))
halved (suc (suc zero)) half e lt = absurd (omega (arith, e))
halved (suc (suc (suc zero))) half e lt = absurd (omega (arith, e))
halved (suc (suc (suc (suc zero)))) half e lt = absurd (omega (arith, e))
halved (suc (suc (suc (suc (suc zero))))) half e lt = absurd (omega (arith, e))
halved (suc (suc (suc (suc (suc (suc zero)))))) half e lt = absurd (omega (arith, e))

pub half_seven : (half : ℕ) → IsPower half → 64 < half → IsPower (half / 128)
half_seven half h lt = let s = halved h.0 half h.1 lt in (s.0, omega (arith, s.1))

pub half_whole : (half : ℕ) → IsPower half → 64 < half → half ≡ 128 * (half / 128)
half_whole half h lt = let s = halved h.0 half h.1 lt in omega (arith, s.1)
