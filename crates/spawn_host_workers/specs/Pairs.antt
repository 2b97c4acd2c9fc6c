-- Lists that go together, place by place.
use Rattle.std.specs.Prelude.{List, [], ◌∷◌}

abbrev pub Together : {A B : Type 0} → (A → B → Type 0) → List A → List B → Type 0
Together R [] [] = Unit {0}
Together R [] (y ∷ ys) = ⊥
Together R (x ∷ xs) [] = ⊥
Together R (x ∷ xs) (y ∷ ys) = R x y × Together R xs ys

abbrev pub AllThree : {A B C : Type 0} → (A → B → C → Type 0) → List A → List B → List C → Type 0
AllThree R [] [] [] = Unit {0}
AllThree R [] [] (z ∷ zs) = ⊥
AllThree R [] (y ∷ ys) zs = ⊥
AllThree R (x ∷ xs) [] zs = ⊥
AllThree R (x ∷ xs) (y ∷ ys) [] = ⊥
AllThree R (x ∷ xs) (y ∷ ys) (z ∷ zs) = R x y z × AllThree R xs ys zs
