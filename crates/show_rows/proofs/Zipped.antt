-- Two lists, place by place.
use Rattle.std.proofs.Common.{◌≡◌, ℕ, ◌+◌, ◌<◌, ◌≤◌, List, [], ◌∷◌, ◌++◌, length, take, get_or, refl, sym, ap, subst, ◌∙◌, arith}
use Rattle.std.proofs.lemmas.List.{take_all, take_more}
use Rattle.std.proofs.lemmas.List.FromFn.{length-enumerate_from, get_or-enumerate_from}
use Rattle.std.specs.List.{AllZip, enumerate_from}

zip_push : {A B : Type 0} (R : A → B → Type 0) (xs : List A) (ys : List B) (x : A) (y : B) → AllZip R xs ys → R x y
    → AllZip R (xs ++ x ∷ []) (ys ++ y ∷ [])
zip_push R [] [] x y p r = (r, tt)
zip_push R [] (b ∷ ys) x y p r = absurd p
zip_push R (a ∷ xs) [] x y p r = absurd p
zip_push R (a ∷ xs) (b ∷ ys) x y p r = (p.0, zip_push R xs ys x y p.1 r)

pub zip_next : {A B : Type 0} (R : A → B → Type 0) (xs : List A) (ys : List B) (k : ℕ) (z x : A) (y : B) → k < length xs
    → x ≡ get_or xs k z → AllZip R (take k xs) ys → R x y → AllZip R (take (k + 1) xs) (ys ++ y ∷ [])
zip_next {A} {B} R xs ys k z x y lt is p r =
    let e : take (k + 1) xs ≡ take k xs ++ x ∷ [] = take_more xs k z lt ∙ ap (λ (w : A). take k xs ++ w ∷ []) (sym is) in
    subst (λ (l : List A). AllZip R l (ys ++ y ∷ [])) (sym e) (zip_push R (take k xs) ys x y p r)

pub zipped_more : {A B : Type 0} (R : A → B → Type 0) (xs : List A) (ys : List B) (k : ℕ) (z : A) (y : B) → k < length xs
    → AllZip R (take k xs) ys → R (get_or xs k z) y → AllZip R (take (k + 1) xs) (ys ++ y ∷ [])
zipped_more R xs ys k z y lt p r = zip_next R xs ys k z (get_or xs k z) y lt refl p r

-- The same of items with their numbers.
pub numbered_more : {A B : Type 0} (R : ℕ × A → B → Type 0) (xs : List A) (ys : List B) (k : ℕ) (z : A) (y : B) → k < length xs
    → AllZip R (take k (enumerate_from 0 xs)) ys → R (k, get_or xs k z) y
    → AllZip R (take (k + 1) (enumerate_from 0 xs)) (ys ++ y ∷ [])
numbered_more {A} R xs ys k z y lt p r =
    let number : k ≡ 0 + k = omega arith in
    let zero_pair : ℕ → ℕ × A = λ n. (n, get_or xs k z) in
    let e : zero_pair k ≡ get_or (enumerate_from 0 xs) k (0, z) =
    ap zero_pair number ∙ sym (get_or-enumerate_from 0 xs k (0, z) lt) in
    zip_next R (enumerate_from 0 xs) ys k (0, z) (k, get_or xs k z) y (omega (arith, lt, length-enumerate_from 0 xs)) e p r

pub numbered_all : {A B : Type 0} (R : ℕ × A → B → Type 0) (xs : List A) (ys : List B) (k : ℕ) → length xs ≤ k
    → AllZip R (take k (enumerate_from 0 xs)) ys → AllZip R (enumerate_from 0 xs) ys
numbered_all {A} R xs ys k le all = subst (λ (zs : List (ℕ × A)). AllZip R zs ys)
    (take_all k (enumerate_from 0 xs) (omega (arith, le, length-enumerate_from 0 xs))) all
