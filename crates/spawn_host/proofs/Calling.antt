-- Threads that are about to call a function.
use Rattle.std.proofs.Common.{◌≡◌, ℕ, zero, suc, ◌+◌, ◌<◌, List, [], ◌∷◌, length, Some, refl, arith, slice_get}
use Rattle.std.specs.Prelude.{Result, Ok, Err, IfOk}
use Rattle.types.specs.declared.value.Value.{Value}
use Rattle.types.specs.declared.parts.FuncType.{FuncType}
use Rattle.types.specs.declared.parts.Body.{Body}
use Rattle.types.specs.declared.parts.Parts.{Parts}
use Rattle.validate_typing.specs.Context.{imported_functions}
use Rattle.interp_trait.specs.Turns.{Meaning}
use Rattle.interp.specs.Starts.{IsFunction, IsNew}
use Rattle.spawn_host.specs.Threads.{IsCall}

-- a place within a list
pub is_there : {A : Type 0} (xs : List A) (n : ℕ) → n < length xs → (x : A) × (slice_get xs n ≡ Some x)
is_there [] n lt = absurd (omega (arith, lt))
is_there (x ∷ xs) zero lt = (x, refl)
is_there (x ∷ xs) (suc n) lt = is_there xs n (omega (arith, lt))

module _ {T E : Type 0} (meaning : T → Meaning)
    (m : Parts) (index own : ℕ) (args : List Value) (budget : ℕ) (index_is : index ≡ length (imported_functions m) + own) where
  pub called : (result : Result T E) → IfOk result (λ x. IsNew m index args budget (meaning x))
      → IfOk result (λ x. (t : FuncType) (b : Body) → IsFunction m own t b → IsCall meaning m t b args budget x)
  called (Err e) new = tt
  called (Ok x) new = λ t b is. record {
    program_is = new.program;
    fuel_is = new.fuel;
    stands_so = new.stands t b (own, index_is, is);
    begins_so = new.begins t b (own, index_is, is);
  }
