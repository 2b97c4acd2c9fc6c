-- The words of bytes: how many, each one, one replaced, zeros behind them, and the bytes again.
use Rattle.std.proofs.Common.{◌≡◌, ℕ, zero, suc, ◌+◌, ◌-◌, ◌*◌, ◌^◌, ◌<◌, ◌≤◌, List, [], ◌∷◌, ◌++◌, length, take, drop}
use Rattle.std.proofs.Common.{set, get_or, replicate, refl, sym, ap, ap₂, ◌∙◌, subst, All, arith}
use Rattle.std.specs.List.{splice}
use Rattle.std.proofs.lemmas.List.{take_at, drop_at, take-append-le, drop-append-le, drop-drop, take-take, drop-take}
use Rattle.std.proofs.lemmas.List.{length-take-le, length-drop, nil_from_length, take-append-drop, drop-replicate}
use Rattle.std.proofs.lemmas.List.Elements.{All-take, All-drop}
use Rattle.shared_memory.specs.Numbers.{le_number, le_bytes}
use Rattle.shared_memory.proofs.Numbers.{length-le_bytes}
use Rattle.shared_memory_sequential.proofs.Joined.{le_number-le_bytes-fits, le_bytes-le_number}
use Rattle.word_row.specs.Words.{data_words, bytes_of}

abbrev B : Type 0
B = List ℕ

abbrev pub AreBytes : B → Type 0
AreBytes bytes = All (λ byte. byte < 256) bytes

pub length-data_words : (count : ℕ) (bytes : B) → length (data_words count bytes) ≡ count
length-data_words zero bytes = refl
length-data_words (suc count) bytes = ap suc (length-data_words count (drop 8 bytes))

-- one of the words
pub data_words-at : (count k : ℕ) (bytes : B) → k < count → get_or (data_words count bytes) k 0 ≡ le_number (take 8 (drop (k * 8) bytes))
data_words-at zero k bytes h = absurd (omega arith)
data_words-at (suc count) zero bytes h = refl
data_words-at (suc count) (suc k) bytes h =
    let at : k * 8 + 8 ≡ suc k * 8 = omega arith in
    data_words-at count k (drop 8 bytes) (omega arith) ∙ ap (λ l. le_number (take 8 l)) (drop-drop (k * 8) 8 bytes)
    ∙ ap (λ n. le_number (take 8 (drop n bytes))) (let e : 8 + k * 8 ≡ suc k * 8 = omega arith in e)

-- the first word of bytes replaced
first_replaced : (bytes : B) (new : ℕ) → new < 2 ^ 64 → le_number (take 8 (le_bytes 8 new ++ drop 8 bytes)) ≡ new
first_replaced bytes new fits = ap le_number (take_at (le_bytes 8 new) (drop 8 bytes) 8 (length-le_bytes 8 new)) ∙ le_number-le_bytes-fits 8 new fits

-- eight bytes replaced are one word replaced
pub data_words-set : (count k : ℕ) (bytes : B) (new : ℕ) → k < count → k * 8 + 8 ≤ length bytes → new < 2 ^ 64
    → data_words count (splice bytes (k * 8) (k * 8 + 8) (le_bytes 8 new)) ≡ set (data_words count bytes) k new
data_words-set zero k bytes new h inside fits = absurd (omega arith)
data_words-set (suc count) zero bytes new h inside fits =
    ap₂ (λ x xs. x ∷ xs) (first_replaced bytes new fits) (ap (data_words count) (drop_at (le_bytes 8 new) (drop 8 bytes) 8 (length-le_bytes 8 new)))
data_words-set (suc count) (suc k) bytes new h inside fits =
    let at : suc k * 8 ≡ 8 + k * 8 = omega arith in
    let end : suc k * 8 + 8 ≡ 8 + (k * 8 + 8) = omega arith in
    let middle : List ℕ = le_bytes 8 new in
    let rest : B = drop 8 bytes in
    let back : drop (suc k * 8 + 8) bytes ≡ drop (k * 8 + 8) rest = ap (λ n. drop n bytes) end ∙ sym (drop-drop (k * 8 + 8) 8 bytes) in
    let front : take 8 (take (suc k * 8) bytes) ≡ take 8 bytes = take-take 8 (suc k * 8) bytes (omega arith) in
    let front_rest : drop 8 (take (suc k * 8) bytes) ≡ take (k * 8) rest = ap (λ n. drop 8 (take n bytes)) at ∙ drop-take 8 (k * 8) bytes in
    let long : length (take (suc k * 8) bytes) ≡ suc k * 8 = length-take-le (suc k * 8) bytes (omega arith) in
    let spliced : B = take (suc k * 8) bytes ++ (middle ++ drop (suc k * 8 + 8) bytes) in
    let first : take 8 spliced ≡ take 8 bytes = take-append-le 8 (take (suc k * 8) bytes) (middle ++ drop (suc k * 8 + 8) bytes) (omega arith) ∙ front in
    let others : drop 8 spliced ≡ splice rest (k * 8) (k * 8 + 8) middle =
    drop-append-le 8 (take (suc k * 8) bytes) (middle ++ drop (suc k * 8 + 8) bytes) (omega arith) ∙ ap₂ (λ a b. a ++ (middle ++ b)) front_rest back in
    let shorter : k * 8 + 8 ≤ length rest = omega (arith, length-drop 8 bytes) in
    ap₂ (λ x xs. x ∷ xs) (ap le_number first) (ap (data_words count) others ∙ data_words-set count k rest new (omega arith) shorter fits)

-- zeros behind bytes add nothing to their words

zeros_spell : (n k : ℕ) → le_number (take n (replicate k 0)) ≡ 0
zeros_spell zero k = refl
zeros_spell (suc n) zero = refl
zeros_spell (suc n) (suc k) = let r = zeros_spell n k in omega arith

zero_words : (count k : ℕ) → data_words count (replicate k 0) ≡ data_words count []
zero_words zero k = refl
zero_words (suc count) k =
    ap₂ (λ x xs. x ∷ xs) (zeros_spell 8 k) (ap (data_words count) (drop-replicate 8 k 0) ∙ zero_words count (k - 8))

pub data_words-zeros : (count eights k : ℕ) (bytes : B) → length bytes ≡ 8 * eights → data_words count (bytes ++ replicate k 0) ≡ data_words count bytes
data_words-zeros zero eights k bytes e = refl
data_words-zeros (suc count) zero k bytes e =
    subst (λ (l : B). data_words (suc count) (l ++ replicate k 0) ≡ data_words (suc count) l)
    (sym (nil_from_length bytes (omega arith))) (zero_words (suc count) k)
data_words-zeros (suc count) (suc eights) k bytes e =
    let long : 8 ≤ length bytes = omega arith in
    ap₂ (λ x xs. x ∷ xs) (ap le_number (take-append-le 8 bytes (replicate k 0) long))
    (ap (data_words count) (drop-append-le 8 bytes (replicate k 0) long) ∙ data_words-zeros count eights k (drop 8 bytes) (omega (arith, length-drop 8 bytes)))

-- the bytes of words are the bytes again

take_past : (xs ys : B) (n : ℕ) → take (length xs + n) (xs ++ ys) ≡ xs ++ take n ys
take_past [] ys n = let e : length {A = ℕ} [] + n ≡ n = omega arith in ap (λ k. take k ys) e
take_past (x ∷ xs) ys n = let e : length (x ∷ xs) + n ≡ suc (length xs + n) = omega arith in
    ap (λ k. take k (x ∷ (xs ++ ys))) e ∙ ap (λ l. x ∷ l) (take_past xs ys n)

pub AreBytes-take : (n : ℕ) (bytes : B) → AreBytes bytes → AreBytes (take n bytes)
AreBytes-take n bytes all = All-take (λ byte. byte < 256) n bytes all

pub AreBytes-drop : (n : ℕ) (bytes : B) → AreBytes bytes → AreBytes (drop n bytes)
AreBytes-drop n bytes all = All-drop (λ byte. byte < 256) n bytes all

-- eight bytes are those of the number that they spell
pub eight_bytes : (bytes : B) → AreBytes bytes → 8 ≤ length bytes → take 8 bytes ≡ le_bytes 8 (le_number (take 8 bytes))
eight_bytes bytes all long =
    let first : B = take 8 bytes in
    let count : length first ≡ 8 = length-take-le 8 bytes long in
    sym (ap (λ n. le_bytes n (le_number first)) (sym count) ∙ le_bytes-le_number first (AreBytes-take 8 bytes all))

pub bytes_of-data_words : (count eights : ℕ) (bytes : B) → AreBytes bytes → length bytes ≡ 8 * eights → eights ≤ count
    → take (length bytes) (bytes_of (data_words count bytes)) ≡ bytes
bytes_of-data_words count zero bytes all e h =
    subst (λ (l : B). take (length l) (bytes_of (data_words count l)) ≡ l) (sym (nil_from_length bytes (omega arith))) refl
bytes_of-data_words zero (suc eights) bytes all e h = absurd (omega arith)
bytes_of-data_words (suc count) (suc eights) bytes all e h =
    let long : 8 ≤ length bytes = omega arith in
    let first : B = le_bytes 8 (le_number (take 8 bytes)) in
    let rest : B = drop 8 bytes in
    let rest_long : length rest ≡ 8 * eights = omega (arith, length-drop 8 bytes) in
    let split : length bytes ≡ length first + length rest = omega (arith, length-drop 8 bytes, length-le_bytes 8 (le_number (take 8 bytes))) in
    let r = bytes_of-data_words count eights rest (AreBytes-drop 8 bytes all) rest_long (omega arith) in
    ap (λ n. take n (first ++ bytes_of (data_words count rest))) split
    ∙ take_past first (bytes_of (data_words count rest)) (length rest)
    ∙ ap₂ (λ a b. a ++ b) (sym (eight_bytes bytes all long)) r
    ∙ take-append-drop 8 bytes
