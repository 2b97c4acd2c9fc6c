-- Texts that spell values, one by one.
use Rattle.std.proofs.Common.{◌≡◌, ℕ, ◌+◌, ◌<◌, List, [], ◌∷◌, ◌++◌, map, length, take, slice_index_or, refl, zero, suc, subst, sym, ◌∙◌, ap, arith}
use Rattle.std.proofs.lemmas.List.{take_more, map-append}
use Rattle.types.specs.declared.value.ValType.{ValType}
use Rattle.types.specs.declared.value.Value.{Value}
use Rattle.types.specs.Values.{type_of}
use Rattle.report_command.specs.Spells.{Spells}
use Rattle.report_jobs.specs.Arguments.{AreSpelled}

spelled_push : (texts : List (List ℕ)) (args : List Value) (text : List ℕ) (v : Value) → AreSpelled texts args → Spells text v
    → AreSpelled (texts ++ text ∷ []) (args ++ v ∷ [])
spelled_push [] [] text v all one = (one, tt)
spelled_push [] (x ∷ args) text v all one = absurd all
spelled_push (t ∷ texts) [] text v all one = absurd all
spelled_push (t ∷ texts) (x ∷ args) text v all one = (all.0, spelled_push texts args text v all.1 one)

pub spelled_length : (texts : List (List ℕ)) (args : List Value) → AreSpelled texts args → length texts ≡ length args
spelled_length [] [] all = refl
spelled_length [] (x ∷ args) all = absurd all
spelled_length (t ∷ texts) [] all = absurd all
spelled_length (t ∷ texts) (x ∷ args) all = ap suc (spelled_length texts args all.1)

module _ {X : Type 0} (view : X → List ℕ) where
  pub spelled_more : (i : ℕ) (texts : List X) (params : List ValType) (args : List Value) (d : X) (e : ValType) (v : Value)
      → i < length texts → i < length params → AreSpelled (map view (take i texts)) args → map type_of args ≡ take i params
      → Spells (view (slice_index_or texts i d)) v → type_of v ≡ slice_index_or params i e
      → AreSpelled (map view (take (i + 1) texts)) (args ++ v ∷ []) × (map type_of (args ++ v ∷ []) ≡ take (i + 1) params)
  spelled_more i texts params args d e v lt near all same one is =
      let more : map view (take (i + 1) texts) ≡ map view (take i texts) ++ view (slice_index_or texts i d) ∷ []
      = ap (map view) (take_more texts i d lt) ∙ map-append view (take i texts) (slice_index_or texts i d ∷ []) in (
        subst (λ (ts : List (List ℕ)). AreSpelled ts (args ++ v ∷ [])) (sym more)
            (spelled_push (map view (take i texts)) args (view (slice_index_or texts i d)) v all one),
        map-append type_of args (v ∷ []) ∙ ap (λ (ts : List ValType). ts ++ type_of v ∷ []) same
            ∙ ap (λ (t : ValType). take i params ++ t ∷ []) is ∙ sym (take_more params i e near),
      )

  pub spelled_at : (i : ℕ) (texts : List X) (args : List Value) (d : X) (e : ValType) → i < length texts → AreSpelled (map view texts) args
      → (v : Value) × Spells (view (slice_index_or texts i d)) v × (type_of v ≡ slice_index_or (map type_of args) i e)
  spelled_at i [] args d e lt all = absurd (omega (arith, lt))
  spelled_at i (t ∷ texts) [] d e lt all = absurd all
  spelled_at zero (t ∷ texts) (x ∷ args) d e lt all = (x, all.0, refl)
  spelled_at (suc i) (t ∷ texts) (x ∷ args) d e lt all = spelled_at i texts args d e (omega (arith, lt)) all.1
