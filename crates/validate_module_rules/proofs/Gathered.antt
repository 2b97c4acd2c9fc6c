-- What is gathered of the items of a list, one after another.
use Rattle.std.proofs.Common.{◌≡◌, ◌∙◌, ℕ, ◌+◌, ◌<◌, List, [], ◌∷◌, ◌++◌, length, take, get_or, sym, ap, append-nil}
use Rattle.std.specs.List.{flat_map}
use Rattle.std.proofs.lemmas.List.{take_more}
use Rattle.std.proofs.lemmas.List.Concat.{flat_map-append}

pub gathered_more : {X Y : Type 0} (f : X → List Y) (xs : List X) (i : ℕ) (x : X) (before after : List Y) → i < length xs → x ≡ get_or xs i x →
    before ≡ flat_map f (take i xs) → after ≡ before ++ f x → after ≡ flat_map f (take (i + 1) xs)
gathered_more f xs i x before after h e b a =
    let split : take (i + 1) xs ≡ take i xs ++ (x ∷ []) = take_more xs i x h ∙ ap (λ y. take i xs ++ (y ∷ [])) (sym e) in
    let more : flat_map f (take (i + 1) xs) ≡ flat_map f (take i xs) ++ (f x ++ []) = ap (flat_map f) split ∙ flat_map-append f (take i xs) (x ∷ []) in
    a ∙ rw b (sym (more ∙ ap (λ ys. flat_map f (take i xs) ++ ys) (append-nil (f x))))
