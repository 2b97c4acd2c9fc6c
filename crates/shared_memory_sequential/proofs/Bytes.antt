-- Numbers read and written byte by byte.
use Rattle.std.proofs.Common.{◌≡◌, ℕ, ◌+◌, ◌-◌, ◌*◌, ◌/◌, ◌%◌, ◌^◌, ◌<◌, ◌≤◌, List, [], ◌∷◌, length, get_or, set, take}
use Rattle.std.proofs.Common.{drop, refl, append_assoc, lit<, suc, arith}
use Rattle.std.specs.List.{splice}
use Rattle.std.proofs.lemmas.Nat.{pow-add}
use Rattle.std.proofs.Math.Nat.{pow-le-pow_right}
use Rattle.std.proofs.lemmas.List.{drop_more, take_more_set, drop-set-lt, take-append-drop}
use Rattle.shared_memory.specs.Numbers.{le_number, le_bytes}

-- One byte more below a number.
pub byte_below : (k n b : ℕ) → n < 2 ^ (8 * k) → b < 256 → n * 256 + b < 2 ^ (8 * (k + 1))
byte_below k n b small byte =
    let e : 8 * (k + 1) ≡ 8 + 8 * k = omega arith in
    rw (e, pow-add 2 8 (8 * k)) (omega arith)

-- A number in at most eight bytes fits a word.
pub fits_word : (k n : ℕ) → k ≤ 8 → n < 2 ^ (8 * k) → n < 2 ^ 64
fits_word k n narrow small = omega (arith, pow-le-pow_right {n = 2} (lit< tt) {i = 8 * k} {j = 64} (omega arith))

-- A number read from the top byte down: one byte more.
pub le_number-more : (xs : List ℕ) (at i j width d : ℕ) → i ≡ j + 1 → i ≤ width → at + width ≤ length xs
    → le_number (take (width - j) (drop (at + j) xs)) ≡ le_number (take (width - i) (drop (at + i) xs)) * 256 + get_or xs (at + j) d
le_number-more xs at i j width d next more inside =
    let e : width - j ≡ suc (width - i) = omega arith in
    let f : at + j + 1 ≡ at + i = omega arith in
    let h : at + j < length xs = omega arith in
    rw (e, drop_more xs (at + j) d h, f) (omega arith)

-- A number written from the bottom byte up: one byte more.
pub le_bytes_more : (width i n : ℕ) → i < width → le_bytes (width - i) n ≡ n % 256 ∷ le_bytes (width - (i + 1)) (n / 256)
le_bytes_more width i n more =
    let e : width - i ≡ suc (width - (i + 1)) = omega arith in
    rw e refl

-- The first byte of a write, and then the others, are one write.
pub splice_more : (xs ys : List ℕ) (at end b : ℕ) → at < length xs → at < end → splice (set xs at b) (at + 1) end ys ≡ splice xs at end (b ∷ ys)
splice_more xs ys at end b inside more =
    rw (take_more_set xs at b inside, drop-set-lt end xs at b more, append_assoc) refl

-- A write of no bytes.
pub splice_none : (xs : List ℕ) (at : ℕ) → splice xs at at [] ≡ xs
splice_none xs at = take-append-drop at xs

-- A write, byte by byte from the bottom up: one byte more.
pub write_more : (xs : List ℕ) (at i width n : ℕ) → i < width → at + width ≤ length xs
    → splice (set xs (at + i) (n % 256)) (at + (i + 1)) (at + width)
    (le_bytes (width - (i + 1)) (n / 256)) ≡ splice xs (at + i) (at + width) (le_bytes (width - i) n)
write_more xs at i width n more inside =
    let e = le_bytes_more width i n more in
    let f : at + i + 1 ≡ at + (i + 1) = omega arith in
    let h : at + i < length xs = omega arith in
    let k : at + i < at + width = omega arith in
    rw (e, ← f) (splice_more xs (le_bytes (width - (i + 1)) (n / 256)) (at + i) (at + width) (n % 256) h k)
