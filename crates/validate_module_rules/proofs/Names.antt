-- The first export with a name.
use Rattle.std.proofs.Common.{◌≡◌, ◌∙◌, ℕ, ◌+◌, ◌<◌, List, [], ◌∷◌, ◌++◌, length, take, drop, get_or, find, refl, sym, ap, Bool, true, false}
use Rattle.std.proofs.Common.{Some, None, is_some, suc}
use Rattle.std.specs.Option.{option_or, option_map}
use Rattle.std.specs.List.{list_any}
use Rattle.std.proofs.lemmas.List.{take_more, take-append-drop}
use Rattle.std.proofs.lemmas.List.Folds.{find-append}
use Rattle.std.proofs.Math.Seq.{drop-cons}

pub found_at : {X : Type 0} (p : X → Bool) (xs : List X) (i : ℕ) (x : X) → i < length xs → x ≡ get_or xs i x → find p (take i xs) ≡ None → p x ≡ true →
    find p xs ≡ Some x
found_at p xs i x h e n y =
    let parts : find p xs ≡ option_or (find p (take i xs)) (find p (drop i xs)) =
    ap (find p) (sym (take-append-drop i xs)) ∙ find-append p (take i xs) (drop i xs) in
    let here : find p (x ∷ drop (suc i) xs) ≡ Some x = rw y refl in
    let split : drop i xs ≡ x ∷ drop (suc i) xs = drop-cons xs i x h ∙ ap (λ z. z ∷ drop (suc i) xs) (sym e) in
    parts ∙ rw (n, split) here

pub found_later : {X : Type 0} (p : X → Bool) (xs : List X) (i : ℕ) (x : X) → i < length xs → x ≡ get_or xs i x → find p (take i xs) ≡ None → p x ≡ false →
    find p (take (i + 1) xs) ≡ None
found_later p xs i x h e n y =
    let here : find p (x ∷ []) ≡ None = rw y refl in
    let split : take (i + 1) xs ≡ take i xs ++ (x ∷ []) = take_more xs i x h ∙ ap (λ z. take i xs ++ (z ∷ [])) (sym e) in
    rw (split, find-append p (take i xs) (x ∷ []), n) here

any_first : {X Y : Type 0} (f : X → Y) (p : X → Bool) (x : X) (xs : List X) (b : Bool) → p x ≡ b → is_some (option_map f (find p xs)) ≡ list_any p xs →
    is_some (option_map f (find p (x ∷ xs))) ≡ list_any p (x ∷ xs)
any_first f p x xs true e r = rw e refl
any_first f p x xs false e r = rw e r

pub any_found : {X Y : Type 0} (f : X → Y) (p : X → Bool) (xs : List X) → is_some (option_map f (find p xs)) ≡ list_any p xs
any_found f p [] = refl
any_found f p (x ∷ xs) = any_first f p x xs (p x) refl (any_found f p xs)
