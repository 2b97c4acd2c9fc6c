-- Bytes that are written at one place, and those at others.
use Rattle.std.proofs.Common.{◌≡◌, ℕ, zero, suc, ◌+◌, ◌-◌, ◌≤◌, ◌<◌, ◌⊎◌, inl, inr, List, [], ◌∷◌, ◌++◌, length, take}
use Rattle.std.proofs.Common.{drop, refl, sym, ap, ◌∙◌, subst, append_assoc, arith}
use Rattle.std.specs.List.{splice}
use Rattle.std.proofs.lemmas.Bool.{cases_lt}
use Rattle.std.proofs.lemmas.List.{take-append-le, drop-append-le, take-append-drop, take-take, drop-take, length-take-le, length-append, length-drop}
use Rattle.std.proofs.lemmas.Slice.{drop-append-drop}
use Rattle.std.proofs.Math.Seq.{take-append-add}

abbrev Bytes : Type 0
Bytes = List ℕ

long-take : (k i : ℕ) (xs : Bytes) → k ≤ i → k ≤ length xs → k ≤ length (take i xs)
long-take zero i xs h g = omega arith
long-take (suc k) zero xs h g = absurd (omega (arith, h))
long-take (suc k) (suc i) [] h g = absurd (omega (arith, g))
long-take (suc k) (suc i) (x ∷ xs) h g = let a = long-take k i xs (omega (arith, h)) (omega (arith, g)) in omega (arith, a)

length-spliced : (xs ys : Bytes) (i j : ℕ) → length (splice xs i j ys) ≡ length (take i xs) + (length ys + length (drop j xs))
length-spliced xs ys i j =
    let a = length-append (take i xs) (ys ++ drop j xs) in
    let b = length-append ys (drop j xs) in
    omega (arith, a, b)

-- as long, or longer where it goes past the end
pub length-splice : (xs ys : Bytes) (i m : ℕ) → length ys ≡ m → i + m ≤ length xs → length (splice xs i (i + m) ys) ≡ length xs
length-splice xs ys i m long within =
    let a = length-spliced xs ys i (i + m) in
    let c = length-take-le i xs (omega (arith, within)) in
    let d = length-drop (i + m) xs in
    omega (arith, a, c, d, long, within)

pub longer-splice : (xs ys : Bytes) (i m : ℕ) → length ys ≡ m → length xs ≤ length (splice xs i (i + m) ys)
longer-splice xs ys i m long = elim (cases_lt i (length xs)) [
  | inl low ↦
      (let a = length-spliced xs ys i (i + m) in
      let c = length-take-le i xs (omega (arith, low)) in
      let d = length-drop (i + m) xs in
      omega (arith, a, c, d, long, low))
  | inr past ↦
      (let a = length-spliced xs ys i (i + m) in
      let c = long-take (length xs) i xs past (omega arith) in
      omega (arith, a, c))
]

-- nothing is written
pub splice-none : (xs : Bytes) (i m : ℕ) (ys : Bytes) → m ≡ 0 → length ys ≡ m → splice xs i (i + m) ys ≡ xs
splice-none xs i m [] none long =
    let same : i + m ≡ i = omega (arith, none) in
    ap (λ j. take i xs ++ ([] ++ drop j xs)) same ∙ take-append-drop i xs
splice-none xs i m (y ∷ ys) none long = absurd (omega (arith, none, long))

-- so many bytes that end before
pub before : (xs ys : Bytes) (i j k n : ℕ) → k + n ≤ i → k + n ≤ length xs → take n (drop k (splice xs i j ys)) ≡ take n (drop k xs)
before xs ys i j k n ends within =
    let rest = ys ++ drop j xs in
    let cut : take (k + n) (take i xs ++ rest) ≡ take (k + n) xs =
    take-append-le (k + n) (take i xs) rest (long-take (k + n) i xs ends within) ∙ take-take (k + n) i xs ends in
    sym (drop-take k n (take i xs ++ rest)) ∙ (ap (drop k) cut ∙ drop-take k n xs)

front-long : (xs ys : Bytes) (i m : ℕ) → length ys ≡ m → i + m ≤ length xs → length (take i xs ++ ys) ≡ i + m
front-long xs ys i m long within =
    let a = length-append (take i xs) ys in
    let b = length-take-le i xs (omega (arith, within)) in
    omega (arith, a, b, long)

-- those from the end on
pub after : (xs ys : Bytes) (i m k : ℕ) → length ys ≡ m → i + m ≤ length xs → i + m ≤ k → drop k (splice xs i (i + m) ys) ≡ drop k xs
after xs ys i m k long within begins =
    ap (drop k) (sym (append_assoc (take i xs) ys (drop (i + m) xs)))
    ∙ drop-append-drop (i + m) xs (take i xs ++ ys) k begins (front-long xs ys i m long within)

-- two writes, of which one ends before the other begins
abbrev both : Bytes → ℕ → ℕ → Bytes → ℕ → ℕ → Bytes → Bytes
both xs i m ys d n zs = take i xs ++ (ys ++ (take d (drop (i + m) xs) ++ (zs ++ drop (i + m + d + n) xs)))

first-low : (xs ys zs : Bytes) (i m d n : ℕ) → length ys ≡ m → i + m ≤ length xs
    → splice (splice xs i (i + m) ys) (i + m + d) (i + m + d + n) zs ≡ both xs i m ys d n zs
first-low xs ys zs i m d n long within =
    let front = take i xs ++ ys in
    let middle = take d (drop (i + m) xs) in
    let end = zs ++ drop (i + m + d + n) xs in
    let front_is : length front ≡ i + m = front-long xs ys i m long within in
    let taken : take (i + m + d) (splice xs i (i + m) ys) ≡ front ++ middle =
    ap (take (i + m + d)) (sym (append_assoc (take i xs) ys (drop (i + m) xs)))
    ∙ (ap (λ l. take (l + d) (front ++ drop (i + m) xs)) (sym front_is) ∙ take-append-add front (drop (i + m) xs) d) in
    let dropped : drop (i + m + d + n) (splice xs i (i + m) ys) ≡ drop (i + m + d + n) xs =
    after xs ys i m (i + m + d + n) long within (omega arith) in
    ap (λ l. l ++ (zs ++ drop (i + m + d + n) (splice xs i (i + m) ys))) taken
    ∙ (ap (λ l. (front ++ middle) ++ (zs ++ l)) dropped
    ∙ (append_assoc front middle end ∙ append_assoc (take i xs) ys (middle ++ end)))

first-high : (xs ys zs : Bytes) (i m d n : ℕ) → i + m ≤ length xs
    → splice (splice xs (i + m + d) (i + m + d + n) zs) i (i + m) ys ≡ both xs i m ys d n zs
first-high xs ys zs i m d n within =
    let j : ℕ = i + m + d in
    let end = zs ++ drop (j + n) xs in
    let taken : take i (take j xs ++ end) ≡ take i xs =
    take-append-le i (take j xs) end (long-take i j xs (omega arith) (omega (arith, within))) ∙ take-take i j xs (omega arith) in
    let dropped : drop (i + m) (take j xs ++ end) ≡ take d (drop (i + m) xs) ++ end =
    drop-append-le (i + m) (take j xs) end (long-take (i + m) j xs (omega arith) within) ∙ ap (λ l. l ++ end) (drop-take (i + m) d xs) in
    ap (λ l. l ++ (ys ++ drop (i + m) (take j xs ++ end))) taken ∙ ap (λ l. take i xs ++ (ys ++ l)) dropped

pub swapped : (xs ys zs : Bytes) (i m j n : ℕ) → length ys ≡ m → i + m ≤ length xs → i + m ≤ j
    → splice (splice xs i (i + m) ys) j (j + n) zs ≡ splice (splice xs j (j + n) zs) i (i + m) ys
swapped xs ys zs i m j n long within below =
    let d : ℕ = j - (i + m) in
    let there : i + m + d ≡ j = omega (arith, below) in
    subst (λ t. splice (splice xs i (i + m) ys) t (t + n) zs ≡ splice (splice xs t (t + n) zs) i (i + m) ys) there
    (first-low xs ys zs i m d n long within ∙ sym (first-high xs ys zs i m d n within))

-- with more behind it
pub spliced-more : (xs ys more : Bytes) (i m : ℕ) → i + m ≤ length xs → splice (xs ++ more) i (i + m) ys ≡ splice xs i (i + m) ys ++ more
spliced-more xs ys more i m within =
    let taken = take-append-le i xs more (omega (arith, within)) in
    let dropped = drop-append-le (i + m) xs more within in
    ap (λ l. l ++ (ys ++ drop (i + m) (xs ++ more))) taken
    ∙ (ap (λ l. take i xs ++ (ys ++ l)) dropped
    ∙ (ap (λ l. take i xs ++ l) (sym (append_assoc ys (drop (i + m) xs) more)) ∙ sym (append_assoc (take i xs) (ys ++ drop (i + m) xs) more)))

pub taken-more : (xs more : Bytes) (k n : ℕ) → k + n ≤ length xs → take n (drop k (xs ++ more)) ≡ take n (drop k xs)
taken-more xs more k n within =
    let dropped = drop-append-le k xs more (omega (arith, within)) in
    let long = length-drop k xs in
    ap (take n) dropped ∙ take-append-le n (drop k xs) more (omega (arith, within, long))
