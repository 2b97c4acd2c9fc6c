-- Numbers as bytes, the lowest first: what a beginning and a rest of the bytes spell, and bytes joined.
use Rattle.std.proofs.Common.{◌≡◌, ℕ, zero, suc, ◌+◌, ◌-◌, ◌*◌, ◌/◌, ◌%◌, ◌^◌, ◌<◌, ◌≤◌, List, [], ◌∷◌}
use Rattle.std.proofs.Common.{◌++◌, length, take, drop, refl, sym, ap, ap₂, subst, ◌∙◌, mod-lt, mod-eq_of_lt, take-append-drop, All, arith}
use Rattle.std.specs.List.{splice}
use Rattle.std.proofs.lemmas.Nat.{pow-add, pow_pos, mod-pow-add, shr-shr, shr_below}
use Rattle.shared_memory.specs.Numbers.{le_number, le_bytes}
use Rattle.shared_memory.proofs.Numbers.{le_number-le_bytes}

-- one byte more multiplies what the bytes can spell by 256
pub pow_byte-suc : (k : ℕ) → 2 ^ (8 * suc k) ≡ 256 * 2 ^ (8 * k)
pow_byte-suc k = let e : 8 * suc k ≡ 8 + 8 * k = omega arith in ap (λ j. 2 ^ j) e ∙ pow-add 2 8 (8 * k)

-- all but the first bytes are those of the number shifted down
pub drop-le_bytes : (n k w : ℕ) → drop k (le_bytes n w) ≡ le_bytes (n - k) (w / 2 ^ (8 * k))
drop-le_bytes zero zero w = refl
drop-le_bytes zero (suc k) w = let e : 0 - suc k ≡ 0 = omega arith in rw e refl
drop-le_bytes (suc n) zero w =
    let all : suc n ≡ suc n - 0 = omega arith in
    let same : w ≡ w / 1 = omega arith in
    ap₂ le_bytes all same
drop-le_bytes (suc n) (suc k) w =
    let left : suc n - suc k ≡ n - k = omega arith in
    let shifted : w / 256 / 2 ^ (8 * k) ≡ w / 2 ^ (8 * suc k) = shr-shr w 8 (8 * k) ∙ ap (λ j. w / 2 ^ j) (let e : 8 + 8 * k ≡ 8 * suc k = omega arith in e) in
    drop-le_bytes n k (w / 256) ∙ ap₂ le_bytes (sym left) shifted

-- the first bytes are those of the same number
pub take-le_bytes : (n k w : ℕ) → k ≤ n → take k (le_bytes n w) ≡ le_bytes k w
take-le_bytes n zero w h = refl
take-le_bytes zero (suc k) w h = absurd (omega arith)
take-le_bytes (suc n) (suc k) w h = ap (λ bytes. w % 256 ∷ bytes) (take-le_bytes n k (w / 256) (omega arith))

-- what is cut off at the top changes no byte
pub le_bytes-mod : (k w : ℕ) → le_bytes k (w % 2 ^ (8 * k)) ≡ le_bytes k w
le_bytes-mod zero w = refl
le_bytes-mod (suc k) w =
    let e : 8 * suc k ≡ 8 * k + 8 = omega arith in
    let split : w % 2 ^ (8 * suc k) ≡ w / 256 % 2 ^ (8 * k) * 256 + w % 256 = ap (λ j. w % 2 ^ j) e ∙ mod-pow-add w (8 * k) 8 in
    let low : w % 2 ^ (8 * suc k) % 256 ≡ w % 256 = omega arith in
    let high : w % 2 ^ (8 * suc k) / 256 ≡ w / 256 % 2 ^ (8 * k) = omega arith in
    ap₂ (λ byte bytes. byte ∷ bytes) low (ap (le_bytes k) high ∙ le_bytes-mod k (w / 256))

-- the bytes of a number and of what lies above it, joined
pub le_bytes-append : (k m a b : ℕ) → a < 2 ^ (8 * k) → le_bytes (k + m) (a + 2 ^ (8 * k) * b) ≡ le_bytes k a ++ le_bytes m b
le_bytes-append zero m a b h =
    let none : 0 + m ≡ m = omega arith in
    let same : a + 1 * b ≡ b = omega arith in
    ap₂ le_bytes none same
le_bytes-append (suc k) m a b h =
    let more : suc k + m ≡ suc (k + m) = omega arith in
    let p = pow_byte-suc k in
    let assoc : 256 * 2 ^ (8 * k) * b ≡ 256 * (2 ^ (8 * k) * b) = omega arith in
    let whole : a + 2 ^ (8 * suc k) * b ≡ a + 256 * (2 ^ (8 * k) * b) = ap (λ q. a + q * b) p ∙ ap (λ q. a + q) assoc in
    let low : (a + 2 ^ (8 * suc k) * b) % 256 ≡ a % 256 = omega arith in
    let high : (a + 2 ^ (8 * suc k) * b) / 256 ≡ a / 256 + 2 ^ (8 * k) * b = omega arith in
    ap (λ n. le_bytes n (a + 2 ^ (8 * suc k) * b)) more
    ∙ ap₂ (λ byte bytes. byte ∷ bytes) low (ap (le_bytes (k + m)) high
    ∙ le_bytes-append k m (a / 256) b (omega arith))

-- the first bytes spell what is left of the number below them
pub le_number-take-le_bytes : (n k w : ℕ) → k ≤ n → le_number (take k (le_bytes n w)) ≡ w % 2 ^ (8 * k)
le_number-take-le_bytes n k w within = ap le_number (take-le_bytes n k w within) ∙ le_number-le_bytes k w

-- all but the first bytes spell the number shifted down, where the number fits its bytes
pub le_number-drop-le_bytes : (n k w : ℕ) → w < 2 ^ (8 * n) → k ≤ n → le_number (drop k (le_bytes n w)) ≡ w / 2 ^ (8 * k)
le_number-drop-le_bytes n k w fits within =
    let bits : 8 * n ≡ 8 * (n - k) + 8 * k = omega arith in
    let wide : w < 2 ^ (8 * (n - k) + 8 * k) = subst (λ (j : ℕ). w < 2 ^ j) bits fits in
    ap le_number (drop-le_bytes n k w) ∙ le_number-le_bytes (n - k) (w / 2 ^ (8 * k)) ∙ mod-eq_of_lt (shr_below w (8 * (n - k)) (8 * k) wide)

-- some bytes in the middle spell the number shifted down, and cut off above them
pub le_number-middle-le_bytes : (n k m w : ℕ) → k + m ≤ n → le_number (take m (drop k (le_bytes n w))) ≡ w / 2 ^ (8 * k) % 2 ^ (8 * m)
le_number-middle-le_bytes n k m w within =
    ap (λ bytes. le_number (take m bytes)) (drop-le_bytes n k w) ∙ le_number-take-le_bytes (n - k) m (w / 2 ^ (8 * k)) (omega arith)

-- the bytes of a number with some in the middle replaced
pub le_bytes-splice : (k m more word value : ℕ) → value < 2 ^ (8 * m)
    → le_bytes (k + (m + more)) (word % 2 ^ (8 * k) + 2 ^ (8 * k) *
    (value + 2 ^ (8 * m) * (word / 2 ^ (8 * k) / 2 ^ (8 * m)))) ≡ splice (le_bytes (k + (m + more)) word) k (k + m)
    (le_bytes m value)
le_bytes-splice k m more word value fits =
    let bits : 8 * k + 8 * m ≡ 8 * (k + m) = omega arith in
    let left : k + (m + more) - (k + m) ≡ more = omega arith in
    let low : le_bytes k (word % 2 ^ (8 * k)) ≡ take k (le_bytes (k + (m + more)) word) = le_bytes-mod k word
    ∙ sym (take-le_bytes (k + (m + more)) k word (omega arith)) in
    let high : le_bytes more (word / 2 ^ (8 * k) / 2 ^ (8 * m)) ≡ drop (k + m) (le_bytes (k + (m + more)) word) =
    ap₂ le_bytes (sym left) (shr-shr word (8 * k) (8 * m) ∙ ap (λ j. word / 2 ^ j) bits)
    ∙ sym (drop-le_bytes (k + (m + more)) (k + m) word) in
    le_bytes-append k (m + more) _ _ (mod-lt word (pow_pos (8 * k)))
    ∙ ap₂ (λ a b. a ++ b) low (le_bytes-append m more value _ fits ∙ ap (λ rest. le_bytes m value ++ rest) high)

-- a number that fits its bytes is spelled by them
pub le_number-le_bytes-fits : (n w : ℕ) → w < 2 ^ (8 * n) → le_number (le_bytes n w) ≡ w
le_number-le_bytes-fits n w fits = le_number-le_bytes n w ∙ mod-eq_of_lt fits

-- two lists of bytes joined spell the first number, and the second above it
pub le_number-append : (xs ys : List ℕ) → le_number (xs ++ ys) ≡ le_number xs + 2 ^ (8 * length xs) * le_number ys
le_number-append [] ys = omega arith
le_number-append (x ∷ xs) ys =
    let r = le_number-append xs ys in
    let more : 8 * length (x ∷ xs) ≡ 8 * suc (length xs) = omega arith in
    let p : 2 ^ (8 * length (x ∷ xs)) ≡ 256 * 2 ^ (8 * length xs) = ap (λ j. 2 ^ j) more ∙ pow_byte-suc (length xs) in
    rw p (omega arith)

-- the bytes of a number, cut in two
pub le_bytes-cut : (k m w : ℕ) → le_bytes (k + m) w ≡ le_bytes k w ++ le_bytes m (w / 2 ^ (8 * k))
le_bytes-cut k m w =
    let left : k + m - k ≡ m = omega arith in
    sym (take-append-drop k (le_bytes (k + m) w))
    ∙ ap₂ (λ a b. a ++ b) (take-le_bytes (k + m) k w (omega arith))
    (drop-le_bytes (k + m) k w ∙ ap (λ j. le_bytes j (w / 2 ^ (8 * k))) left)

-- each of the bytes is one
pub All-le_bytes : (n w : ℕ) → All (λ byte. byte < 256) (le_bytes n w)
All-le_bytes zero w k d below = absurd (omega arith)
All-le_bytes (suc n) w zero d below = let first : w % 256 < 256 = omega arith in first
All-le_bytes (suc n) w (suc k) d below = All-le_bytes n (w / 256) k d (omega arith)

-- what holds of each byte holds of the first, and of each other
first_byte : (x : ℕ) (xs : List ℕ) → All (λ byte. byte < 256) (x ∷ xs) → x < 256
first_byte x xs all = all 0 0 (omega arith)

other_bytes : (x : ℕ) (xs : List ℕ) → All (λ byte. byte < 256) (x ∷ xs) → All (λ byte. byte < 256) xs
other_bytes x xs all k d below = all (suc k) d (omega arith)

-- bytes spell a number that fits them
pub le_number-lt : (bytes : List ℕ) → All (λ byte. byte < 256) bytes → le_number bytes < 2 ^ (8 * length bytes)
le_number-lt [] all = omega arith
le_number-lt (x ∷ xs) all =
    let r = le_number-lt xs (other_bytes x xs all) in
    let first = first_byte x xs all in
    let more : 8 * length (x ∷ xs) ≡ 8 * suc (length xs) = omega arith in
    let p : 2 ^ (8 * length (x ∷ xs)) ≡ 256 * 2 ^ (8 * length xs) = ap (λ j. 2 ^ j) more ∙ pow_byte-suc (length xs) in
    rw p (omega arith)

-- the number that bytes spell has those bytes
pub le_bytes-le_number : (bytes : List ℕ) → All (λ byte. byte < 256) bytes → le_bytes (length bytes) (le_number bytes) ≡ bytes
le_bytes-le_number [] all = refl
le_bytes-le_number (x ∷ xs) all =
    let first = first_byte x xs all in
    let low : (x + 256 * le_number xs) % 256 ≡ x = omega arith in
    let high : (x + 256 * le_number xs) / 256 ≡ le_number xs = omega arith in
    ap₂ (λ byte bytes. byte ∷ bytes) low (ap (le_bytes (length xs)) high ∙ le_bytes-le_number xs (other_bytes x xs all))
