-- Which seats the pops take.
use Rattle.std.proofs.Common.{◌≡◌, List, [], ◌∷◌, ◌++◌, refl, sym, ◌∙◌, ap, map, reverse}
use Rattle.std.proofs.lemmas.List.{map-append, reverse-append, reverse-reverse}
use Rattle.shared_memory_on_table.specs.declared.view.Caller.{Caller}

-- What a pop takes and what it leaves.
pub record Pops {A : Type 0} (f : A → Caller) (x : A) (rest : List A) (c : Caller) (cs : List Caller) : Type 0 where
  pub taken : f x ≡ c
  pub left : map f rest ≡ cs

-- the last
pub popped : {A : Type 0} (f : A → Caller) (xs rest : List A) (x : A) (cs : List Caller) (c : Caller)
    → map f xs ≡ cs ++ c ∷ [] → xs ≡ rest ++ x ∷ [] → Pops f x rest c cs
popped f xs rest x cs c all is =
    let e : map f rest ++ f x ∷ [] ≡ cs ++ c ∷ [] = sym (map-append f rest (x ∷ [])) ∙ (ap (map f) (sym is) ∙ all) in
    let r : f x ∷ reverse (map f rest) ≡ c ∷ reverse cs = sym (reverse-append (map f rest) (f x ∷ [])) ∙ (ap reverse e ∙ reverse-append cs (c ∷ [])) in
    let same : f x ≡ c = cc in
    let others : reverse (map f rest) ≡ reverse cs = cc in
    record { taken = same; left = sym (reverse-reverse (map f rest)) ∙ (ap reverse others ∙ reverse-reverse cs) }

map_reverse : {A : Type 0} (f : A → Caller) (xs : List A) → map f (reverse xs) ≡ reverse (map f xs)
map_reverse f [] = refl
map_reverse f (x ∷ xs) = ap (map f) (reverse-append (x ∷ []) xs)
    ∙ (map-append f (reverse xs) (x ∷ []) ∙ (ap (λ w. w ++ f x ∷ []) (map_reverse f xs)
    ∙ sym (reverse-append (f x ∷ []) (map f xs))))

-- the callers of a list turned round
pub turned_callers : {A : Type 0} (f : A → Caller) (rest turned : List A) (cs : List Caller) → map f rest ≡ cs
    → turned ≡ reverse rest → map f turned ≡ reverse cs
turned_callers f rest turned cs all around = ap (map f) around ∙ (map_reverse f rest ∙ ap reverse all)
