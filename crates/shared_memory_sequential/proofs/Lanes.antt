-- What a lane is as a number, and what writing one leaves in each other.
use Rattle.std.proofs.Common.{◌≡◌, ℕ, ◌+◌, ◌-◌, ◌*◌, ◌/◌, ◌%◌, ◌^◌, ◌<◌, ◌≤◌, ◌⊎◌, List, ◌++◌, length, take, drop, sym}
use Rattle.std.proofs.Common.{ap, ◌∙◌, subst, append_assoc, bit_and, mod-lt, mod-eq_of_lt, inl, inr, arith}
use Rattle.std.proofs.lemmas.Nat.{pow-add, pow_pos, shr_below, and_mask, shl_whole, mul-add-lt, div-add-mod'}
use Rattle.std.proofs.lemmas.Nat.Bits.{ones_shr}
use Rattle.std.proofs.lemmas.List.{take_at, drop_at, take-append-le, take-take, drop-take, length-take-le, length-append}
use Rattle.std.proofs.lemmas.Slice.{drop-append-drop}
use Rattle.std.specs.List.{splice}
use Rattle.shared_memory.specs.Numbers.{le_number, le_bytes}
use Rattle.shared_memory_sequential.specs.Words.{lane_of, IsWithLane}
use Rattle.shared_memory.proofs.Numbers.{length-le_bytes, le_number-le_bytes}
use Rattle.shared_memory_sequential.proofs.Joined.{le_number-middle-le_bytes, le_bytes-splice}

-- a lane is the word shifted down, and cut off above
pub lane_of-number : (word addr width : ℕ) → addr % 8 + width ≤ 8 → lane_of word addr width ≡ word / 2 ^ (8 * (addr % 8)) % 2 ^ (8 * width)
unfolding lane_of
lane_of-number word addr width within = le_number-middle-le_bytes 8 (addr % 8) width word within

-- a lane fits its bytes
pub lane_of-fits : (word addr width : ℕ) → addr % 8 + width ≤ 8 → lane_of word addr width < 2 ^ (8 * width)
lane_of-fits word addr width within = rw (lane_of-number word addr width within) (mod-lt _ (pow_pos (8 * width)))

-- the mask of so many ones cuts a number off above them
pub cut_by_mask : (n bits : ℕ) → bits ≤ 64 → bit_and n (18446744073709551615 / 2 ^ (64 - bits)) ≡ n % 2 ^ bits
cut_by_mask n bits within =
    let whole : 64 - (64 - bits) ≡ bits = omega arith in
    let ones : 18446744073709551615 / 2 ^ (64 - bits) ≡ 2 ^ bits - 1 = ones_shr 64 (64 - bits) (omega arith) ∙ ap (λ j. 2 ^ j - 1) whole in
    ap (bit_and n) ones ∙ and_mask n bits

-- a number with a part taken out and a value put in its place: the part counts in units of `low`, and takes `wide` values
replaced : (word low wide value : ℕ) → word - word / low % wide * low + value * low ≡ word % low + low * (value + wide * (word / low / wide))
replaced word low wide value =
    let outer = div-add-mod' word low in
    let inner = ap (λ q. q * low) (div-add-mod' (word / low) wide) in
    omega (arith, outer, inner)

-- what is taken out is not more than the word
pub taken_out : (word low wide : ℕ) → word / low % wide * low ≤ word
taken_out word low wide =
    let outer = div-add-mod' word low in
    let inner = ap (λ q. q * low) (div-add-mod' (word / low) wide) in
    omega (arith, outer, inner)

-- a word with a lane replaced is a word
pub replaced-fits : (word shift bits more value : ℕ) → word < 2 ^ (more + bits + shift) → value < 2 ^ bits
    → word % 2 ^ shift + 2 ^ shift * (value + 2 ^ bits * (word / 2 ^ shift / 2 ^ bits)) < 2 ^ (more + bits + shift)
replaced-fits word shift bits more value word_fits value_fits =
    let high : word / 2 ^ shift / 2 ^ bits < 2 ^ more = shr_below _ more bits (shr_below word (more + bits) shift word_fits) in
    let middle : word / 2 ^ shift / 2 ^ bits * 2 ^ bits + value < 2 ^ bits * 2 ^ more = mul-add-lt _ (2 ^ bits) value (2 ^ more) high value_fits in
    let whole = mul-add-lt (word / 2 ^ shift / 2 ^ bits * 2 ^ bits + value) (2 ^ shift) (word % 2 ^ shift)
    (2 ^ bits * 2 ^ more) middle (mod-lt word (pow_pos shift)) in
    rw (pow-add 2 (more + bits) shift, pow-add 2 more bits) (omega (arith, whole))

-- the word that `with_lane` makes
pub record IsMade (word addr width value lane made : ℕ) : Type 0 where
  pub below : lane * 2 ^ (8 * (addr % 8)) % 2 ^ 64 ≤ word
  pub fits : word - lane * 2 ^ (8 * (addr % 8)) % 2 ^ 64 + value * 2 ^ (8 * (addr % 8)) % 2 ^ 64 < 2 ^ 64
  pub is : IsWithLane word addr width value made

-- the word without its lane, and the value in the lane's place
pub made : (word addr width value lane : ℕ) → word < 2 ^ 64 → addr % 8 + width ≤ 8 → value < 2 ^ (8 * width) → lane ≡ lane_of word addr width
    → IsMade word addr width value lane (word - lane * 2 ^ (8 * (addr % 8)) % 2 ^ 64 + value * 2 ^ (8 * (addr % 8)) % 2 ^ 64)
unfolding IsWithLane
made word addr width value lane word_fits within value_fits is_lane =
    let shift : ℕ = 8 * (addr % 8) in
    let bits : ℕ = 8 * width in
    let room : ℕ = 8 - (addr % 8 + width) in
    let number : lane ≡ word / 2 ^ shift % 2 ^ bits = is_lane ∙ lane_of-number word addr width within in
    let lane_fits : lane < 2 ^ bits = rw number (mod-lt _ (pow_pos bits)) in
    let lane_whole : lane * 2 ^ shift % 2 ^ 64 ≡ word / 2 ^ shift % 2 ^ bits * 2 ^ shift =
    shl_whole lane bits shift 64 lane_fits (omega arith) ∙ ap (λ q. q * 2 ^ shift) number in
    let value_whole : value * 2 ^ shift % 2 ^ 64 ≡ value * 2 ^ shift = shl_whole value bits shift 64 value_fits (omega arith) in
    let all_bits : 64 ≡ 8 * room + bits + shift = omega arith in
    let all_bytes : 8 ≡ addr % 8 + (width + room) = omega arith in
    let whole : word - lane * 2 ^ shift % 2 ^ 64 + value * 2 ^ shift % 2 ^ 64 ≡ word % 2 ^ shift + 2 ^ shift *
    (value + 2 ^ bits * (word / 2 ^ shift / 2 ^ bits)) =
    rw (lane_whole, value_whole) (replaced word (2 ^ shift) (2 ^ bits) value) in
    let P : ℕ → Type 0 = λ j. word < 2 ^ j → word % 2 ^ shift + 2 ^ shift * (value + 2 ^ bits * (word / 2 ^ shift / 2 ^ bits)) < 2 ^ j in
    let B : ℕ → Type 0 =
    λ n. le_bytes n (word % 2 ^ shift + 2 ^ shift * (value + 2 ^ bits * (word / 2 ^ shift / 2 ^ bits))) ≡ splice
    (le_bytes n word) (addr % 8) (addr % 8 + width) (le_bytes width value) in
    record {
      below = rw lane_whole (taken_out word (2 ^ shift) (2 ^ bits));
      fits = rw whole (subst P (sym all_bits) (λ h. replaced-fits word shift bits (8 * room) value h value_fits) word_fits);
      is = ap (le_bytes 8) whole ∙ subst B (sym all_bytes) (le_bytes-splice (addr % 8) width room word value value_fits);
    }

-- bytes that end before those that were replaced begin
before : (xs ys : List ℕ) (i k m : ℕ) → k + m ≤ i → i ≤ length xs → take m (drop k (take i xs ++ ys)) ≡ take m (drop k xs)
before xs ys i k m ends within =
    let cut : take (k + m) (take i xs ++ ys) ≡ take (k + m) xs = take-append-le (k + m)
    (take i xs) ys (omega (arith, length-take-le i xs within)) ∙ take-take (k + m) i xs ends in
    sym (drop-take k m (take i xs ++ ys)) ∙ ap (drop k) cut ∙ drop-take k m xs

-- bytes from the end of those that were replaced on
after : (xs ys : List ℕ) (i m k : ℕ) → i + m ≤ k → i ≤ length xs → length ys ≡ m → drop k (take i xs ++ (ys ++ drop (i + m) xs)) ≡ drop k xs
after xs ys i m k begins within as_many =
    let long : length (take i xs ++ ys) ≡ i + m = length-append (take i xs) ys
    ∙ (let e : length (take i xs) + length ys ≡ i + m = omega (arith, length-take-le i xs within) in e) in
    ap (drop k) (sym (append_assoc (take i xs) ys (drop (i + m) xs))) ∙ drop-append-drop (i + m) xs (take i xs ++ ys) k begins long

-- a lane that was written reads as the value written
pub written_here : (word addr width value written : ℕ) → addr % 8 + width ≤ 8 → value < 2 ^ (8 * width)
    → IsWithLane word addr width value written → lane_of written addr width ≡ value
unfolding lane_of IsWithLane
written_here word addr width value written within fits is =
    let i : ℕ = addr % 8 in
    let begun : length (take i (le_bytes 8 word)) ≡ i = length-take-le i (le_bytes 8 word) (omega (arith, length-le_bytes 8 word)) in
    ap (λ bytes. le_number (take width (drop i bytes))) is
    ∙ ap (λ bytes. le_number (take width bytes)) (drop_at (take i (le_bytes 8 word)) (le_bytes width value ++ drop (i + width) (le_bytes 8 word)) i begun)
    ∙ ap le_number (take_at (le_bytes width value)
    (drop (i + width) (le_bytes 8 word)) width (length-le_bytes width value)) ∙ le_number-le_bytes width value
    ∙ mod-eq_of_lt fits

-- a lane that doesn't overlap the one written reads as before
pub written_elsewhere : (word addr width value written other other_width : ℕ) → addr % 8 + width ≤ 8
    → (other % 8 + other_width ≤ addr % 8) ⊎ (addr % 8 + width ≤ other % 8)
    → IsWithLane word addr width value written → lane_of written other other_width ≡ lane_of word other other_width
unfolding lane_of IsWithLane
written_elsewhere word addr width value written other other_width within apart is =
    let begun : addr % 8 ≤ length (le_bytes 8 word) = omega (arith, length-le_bytes 8 word) in
    elim apart [
      | inl ends ↦ ap (λ bytes. le_number (take other_width (drop (other % 8) bytes))) is
          ∙ ap le_number (before (le_bytes 8 word) _ (addr % 8) (other % 8) other_width ends begun)
      | inr begins ↦ ap (λ bytes. le_number (take other_width (drop (other % 8) bytes))) is
          ∙ ap (λ bytes. le_number (take other_width bytes))
          (after (le_bytes 8 word) (le_bytes width value)
          (addr % 8) width (other % 8) begins begun (length-le_bytes width value))
    ]
