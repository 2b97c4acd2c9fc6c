-- An operator on whole words that works bit by bit changes a lane alone, where its operand leaves the bits outside as
-- they are; and a lane of eight bytes is the whole word.
use Rattle.std.proofs.Common.{◌≡◌, ℕ, ◌+◌, ◌-◌, ◌*◌, ◌/◌, ◌%◌, ◌^◌, ◌<◌, ◌≤◌, refl, sym, ap, ap₂, ◌∙◌, subst}
use Rattle.std.proofs.Common.{take, drop, bit_and, bit_or, bit_xor, mod-lt, mod-eq_of_lt, arith}
use Rattle.std.proofs.lemmas.Nat.{pow_pos, and_mask, and_mod, or_mod, xor_mod, and_shr, or_shr, xor_shr, div-add-mod', div-mul-add, mod-mul-add}
use Rattle.std.specs.Int.Bits.{or_zero_r, xor_zero_r}
use Rattle.std.specs.List.{splice}
use Rattle.shared_memory.specs.Numbers.{le_number, le_bytes}
use Rattle.shared_memory_sequential.specs.Words.{lane_of, IsWithLane}
use Rattle.shared_memory_sequential.proofs.Joined.{le_bytes-splice, le_number-le_bytes-fits}
use Rattle.shared_memory_sequential.proofs.Lanes.{lane_of-number, replaced-fits}

-- An operator that works on each bit by itself.
pub record IsBitwise (f : ℕ → ℕ → ℕ) : Type 0 where
  pub low : (a b k : ℕ) → f a b % 2 ^ k ≡ f (a % 2 ^ k) (b % 2 ^ k)
  pub high : (a b k : ℕ) → f a b / 2 ^ k ≡ f (a / 2 ^ k) (b / 2 ^ k)

pub and_is_bitwise : IsBitwise bit_and
and_is_bitwise = record { low = and_mod; high = and_shr }

pub or_is_bitwise : IsBitwise bit_or
or_is_bitwise = record { low = or_mod; high = or_shr }

pub xor_is_bitwise : IsBitwise bit_xor
xor_is_bitwise = record { low = xor_mod; high = xor_shr }

-- a number in three parts: those below a lane, the lane, and those above it
three_parts : (n low wide : ℕ) → n ≡ n % low + low * (n / low % wide + wide * (n / low / wide))
three_parts n low wide =
    let outer = div-add-mod' n low in
    let inner = ap (λ q. q * low) (div-add-mod' (n / low) wide) in
    omega (arith, outer, inner)

-- The parts of a word with a lane replaced: those outside the lane are the word's.
record Parts (word shift bits value written : ℕ) : Type 0 where
  low : written % 2 ^ shift ≡ word % 2 ^ shift
  middle : written / 2 ^ shift % 2 ^ bits ≡ value
  high : written / 2 ^ shift / 2 ^ bits ≡ word / 2 ^ shift / 2 ^ bits

parts_of : (low l v h wide : ℕ) → l < low → v < wide
    → ((l + low * (v + wide * h)) % low ≡ l) × ((l + low * (v + wide * h)) / low % wide ≡ v) × ((l + low * (v + wide * h)) / low / wide ≡ h)
parts_of low l v h wide below fits =
    let turned : l + low * (v + wide * h) ≡ (v + wide * h) * low + l = omega arith in
    let first : (l + low * (v + wide * h)) % low ≡ l = ap (λ n. n % low) turned ∙ mod-mul-add (v + wide * h) low l below in
    let rest : (l + low * (v + wide * h)) / low ≡ h * wide + v =
    ap (λ n. n / low) turned ∙ div-mul-add (v + wide * h) low l below ∙ (let e : v + wide * h ≡ h * wide + v = omega arith in e) in (
      first,
      ap (λ n. n % wide) rest ∙ mod-mul-add h wide v fits,
      ap (λ n. n / wide) rest ∙ div-mul-add h wide v fits,
    )

parts : (word addr width value written : ℕ) → word < 2 ^ 64 → written < 2 ^ 64 → addr % 8 + width ≤ 8 → value < 2 ^ (8 * width)
    → IsWithLane word addr width value written → Parts word (8 * (addr % 8)) (8 * width) value written
unfolding IsWithLane
parts word addr width value written word_fits written_fits within value_fits is =
    let shift : ℕ = 8 * (addr % 8) in
    let bits : ℕ = 8 * width in
    let room : ℕ = 8 - (addr % 8 + width) in
    let all_bytes : 8 ≡ addr % 8 + (width + room) = omega arith in
    let all_bits : 64 ≡ 8 * room + bits + shift = omega arith in
    let whole : ℕ = word % 2 ^ shift + 2 ^ shift * (value + 2 ^ bits * (word / 2 ^ shift / 2 ^ bits)) in
    let fits : whole < 2 ^ 64 = subst (λ (j : ℕ). word < 2 ^ j → whole < 2 ^ j) (sym all_bits)
    (λ h. replaced-fits word shift bits (8 * room) value h value_fits) word_fits in
    let B : ℕ → Type 0 = λ n. le_bytes n whole ≡ splice (le_bytes n word) (addr % 8) (addr % 8 + width) (le_bytes width value) in
    let bytes : le_bytes 8 written ≡ le_bytes 8 whole = is ∙ sym (subst B (sym all_bytes) (le_bytes-splice (addr % 8) width room word value value_fits)) in
    let same : written ≡ whole = sym (le_number-le_bytes-fits 8 written written_fits) ∙ ap le_number bytes ∙ le_number-le_bytes-fits 8 whole fits in
    let three = parts_of (2 ^ shift) (word % 2 ^ shift) value (word / 2 ^ shift / 2 ^ bits) (2 ^ bits) (mod-lt word (pow_pos shift)) value_fits in
    record {
      low = ap (λ n. n % 2 ^ shift) same ∙ three.0;
      middle = ap (λ n. n / 2 ^ shift % 2 ^ bits) same ∙ three.1;
      high = ap (λ n. n / 2 ^ shift / 2 ^ bits) same ∙ three.2;
    }

-- A bitwise operator with an operand that outside a lane is one that leaves the word as it is changes that lane alone.
pub bitwise_lane : (f : ℕ → ℕ → ℕ) → IsBitwise f → (word addr width value outside operand : ℕ) → outside < 2 ^ 64 → operand < 2 ^ 64
    → addr % 8 + width ≤ 8 → value < 2 ^ (8 * width) → f word outside ≡ word → IsWithLane outside addr width value operand
    → IsWithLane word addr width (f (lane_of word addr width) value) (f word operand)
unfolding IsWithLane
bitwise_lane f bitwise word addr width value outside operand outside_fits operand_fits within value_fits leaves is =
    let shift : ℕ = 8 * (addr % 8) in
    let bits : ℕ = 8 * width in
    let room : ℕ = 8 - (addr % 8 + width) in
    let all_bytes : 8 ≡ addr % 8 + (width + room) = omega arith in
    let p = parts outside addr width value operand outside_fits operand_fits within value_fits is in
    let made : ℕ = f word operand in
    let new : ℕ = f (lane_of word addr width) value in
    let low : made % 2 ^ shift ≡ word % 2 ^ shift =
    bitwise.low word operand shift ∙ ap (f (word % 2 ^ shift)) p.low ∙ sym (bitwise.low word outside shift) ∙ ap (λ n. n % 2 ^ shift) leaves in
    let up : made / 2 ^ shift ≡ f (word / 2 ^ shift) (operand / 2 ^ shift) = bitwise.high word operand shift in
    let middle : made / 2 ^ shift % 2 ^ bits ≡ new =
    ap (λ n. n % 2 ^ bits) up ∙ bitwise.low (word / 2 ^ shift) (operand / 2 ^ shift) bits
    ∙ ap₂ f (sym (lane_of-number word addr width within)) p.middle in
    let high : made / 2 ^ shift / 2 ^ bits ≡ word / 2 ^ shift / 2 ^ bits =
    ap (λ n. n / 2 ^ bits) up ∙ bitwise.high (word / 2 ^ shift) (operand / 2 ^ shift) bits
    ∙ ap (f (word / 2 ^ shift / 2 ^ bits)) p.high
    ∙ sym (bitwise.high (word / 2 ^ shift) (outside / 2 ^ shift) bits)
    ∙ ap (λ n. n / 2 ^ bits) (sym (bitwise.high word outside shift))
    ∙ ap (λ n. n / 2 ^ shift / 2 ^ bits) leaves in
    let new_fits : new < 2 ^ bits = subst (λ (n : ℕ). n < 2 ^ bits) middle (mod-lt (made / 2 ^ shift) (pow_pos bits)) in
    let whole : made ≡ word % 2 ^ shift + 2 ^ shift * (new + 2 ^ bits * (word / 2 ^ shift / 2 ^ bits)) =
    three_parts made (2 ^ shift) (2 ^ bits)
    ∙ ap₂ (λ l n. l + 2 ^ shift * n) low (ap₂ (λ m h. m + 2 ^ bits * h) middle high) in
    let B : ℕ → Type 0 =
    λ n. le_bytes n (word % 2 ^ shift + 2 ^ shift * (new + 2 ^ bits * (word / 2 ^ shift / 2 ^ bits))) ≡ splice
    (le_bytes n word) (addr % 8) (addr % 8 + width) (le_bytes width new) in
    ap (le_bytes 8) whole ∙ subst B (sym all_bytes) (le_bytes-splice (addr % 8) width room word new new_fits)

-- The operands outside a lane: ones leave a word as it is under a bitwise and, zeros under the others.
pub and_ones : (word : ℕ) → word < 2 ^ 64 → bit_and word 18446744073709551615 ≡ word
and_ones word fits = and_mask word 64 ∙ mod-eq_of_lt fits

pub or_zeros : (word : ℕ) → bit_or word 0 ≡ word
or_zeros word = or_zero_r word

pub xor_zeros : (word : ℕ) → bit_xor word 0 ≡ word
xor_zeros word = xor_zero_r word

-- A lane of eight bytes is the whole word: it is replaced by a word, and reads as the word.
pub whole_lane : (word addr new : ℕ) → addr % 8 ≡ 0 → IsWithLane word addr 8 new new
unfolding IsWithLane
whole_lane word addr new e = subst (λ (i : ℕ). le_bytes 8 new ≡ splice (le_bytes 8 word) i (i + 8) (le_bytes 8 new)) (sym e) refl

pub lane_of-whole : (word addr : ℕ) → word < 2 ^ 64 → addr % 8 ≡ 0 → lane_of word addr 8 ≡ word
unfolding lane_of
lane_of-whole word addr fits e =
    ap (λ i. le_number (take 8 (drop i (le_bytes 8 word)))) e ∙ le_number-le_bytes-fits 8 word fits
