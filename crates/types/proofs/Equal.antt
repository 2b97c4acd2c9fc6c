-- What the tests of equal types decide.
use Rattle.std.proofs.Common.{◌≡◌, List, [], ◌∷◌, Bool, ◌&&◌, refl, ap, ◌∙◌}
use Rattle.std.specs.Bool.{Decides}
use Rattle.std.specs.Cmp.Lexicographic.{pointwise}
use Rattle.std.proofs.lemmas.Bool.Decides.{Decides-and, Decides-like}
use Rattle.types.specs.declared.value.ValType.{ValType}
use Rattle.types.specs.declared.value.ValType.TheVariants.{I32, I64}
use Rattle.types.specs.declared.parts.FuncType.{FuncType}
use Rattle.types.specs.Equal.{is_type, are_types, has_type}

pub Decides-type : (t u : ValType) → Decides (is_type t u) (t ≡ u)
Decides-type I32 I32 = (λ _. refl, λ _. refl)
Decides-type I32 I64 = (λ h. cc, λ h. cc)
Decides-type I64 I32 = (λ h. cc, λ h. cc)
Decides-type I64 I64 = (λ _. refl, λ _. refl)

pub Decides-types : (ts us : List ValType) → Decides (are_types ts us) (ts ≡ us)
Decides-types [] [] = (λ _. refl, λ _. refl)
Decides-types [] (u ∷ us) = (λ h. cc, λ h. cc)
Decides-types (t ∷ ts) [] = (λ h. cc, λ h. cc)
Decides-types (t ∷ ts) (u ∷ us) =
    Decides-like _ (λ p. let a = p.0 in let b = p.1 in cc) (λ e. (cc, cc)) (Decides-and _ _ (Decides-type t u) (Decides-types ts us))

-- where an elements' test is this one, so is that of lists
pub pointwise_types : (E : ValType → ValType → Bool) → ((t u : ValType) → E t u ≡ is_type t u) → (ts us : List ValType) → pointwise E ts us ≡ are_types ts us
pointwise_types E e [] [] = refl
pointwise_types E e [] (u ∷ us) = refl
pointwise_types E e (t ∷ ts) [] = refl
pointwise_types E e (t ∷ ts) (u ∷ us) = ap (λ b. b && pointwise E ts us) (e t u) ∙ ap (λ b. is_type t u && b) (pointwise_types E e ts us)

pub Decides-has_type : (t : FuncType) (params results : List ValType) → Decides (has_type t params results) ((t.params ≡ params) × (t.results ≡ results))
Decides-has_type t params results = Decides-and _ _ (Decides-types t.params params) (Decides-types t.results results)
