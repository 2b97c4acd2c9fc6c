-- Two lists, place by place.
use Rattle.std.proofs.Common.{◌≡◌, ℕ, ◌+◌, ◌<◌, List, [], ◌∷◌, ◌++◌, length, take, get_or, sym, ap, subst, ◌∙◌}
use Rattle.std.proofs.lemmas.List.{take_more}
use Rattle.std.specs.List.{AllZip}

zip_push : {A B : Type 0} (R : A → B → Type 0) (xs : List A) (ys : List B) (x : A) (y : B) → AllZip R xs ys → R x y
    → AllZip R (xs ++ x ∷ []) (ys ++ y ∷ [])
zip_push R [] [] x y p r = (r, tt)
zip_push R [] (b ∷ ys) x y p r = absurd p
zip_push R (a ∷ xs) [] x y p r = absurd p
zip_push R (a ∷ xs) (b ∷ ys) x y p r = (p.0, zip_push R xs ys x y p.1 r)

pub zip_next : {A B : Type 0} (R : A → B → Type 0) (xs : List A) (ys : List B) (k : ℕ) (z x : A) (y : B) → k < length xs
    → x ≡ get_or xs k z → AllZip R (take k xs) ys → R x y → AllZip R (take (k + 1) xs) (ys ++ y ∷ [])
zip_next {A} {B} R xs ys k z x y lt is p r =
    let e : take (k + 1) xs ≡ take k xs ++ x ∷ [] = take_more xs k z lt ∙ ap (λ (w : A). take k xs ++ w ∷ []) (sym is) in
    subst (λ (l : List A). AllZip R l (ys ++ y ∷ [])) (sym e) (zip_push R (take k xs) ys x y p r)
