-- Why a module is refused.
use Rattle.std.specs.Prelude.{◌≡◌, ◌⊎◌, ℕ, ◌+◌, ◌<◌, length, Some, None, Result, IfSome, IsErrAnd}
use Rattle.std.specs.Bool.{⊤}
use Rattle.std.specs.List.{slice_get}
use Rattle.types.specs.declared.parts.FuncType.{FuncType}
use Rattle.types.specs.declared.parts.Body.{Body}
use Rattle.types.specs.declared.parts.Parts.{Parts}
use Rattle.validate_typing.specs.declared.fault.Fault.{Fault}
use Rattle.validate_typing.specs.declared.fault.ValidFault.{ValidFault}
use Rattle.validate_typing.specs.declared.fault.ValidFault.TheVariants.{OutOfMemory, Outside, InBody}
use Rattle.validate_typing.specs.declared.fault.Fault.TheVariants as faults
use Rattle.validate_typing.specs.Faults.{fault_kind}
use Rattle.validate_typing.specs.Context.{imported_functions, context_of, in_function}
use Rattle.validate_typing.specs.Typing.{IsTyped}
use Rattle.validate_module_rules.specs.Faults.{fault_outside}
use Rattle.validate_bodies.specs.Refused.{BreaksAt}

-- A fault of a rule outside bodies is answered, unless memory ran out.
abbrev pub IsRefusal : Fault → ValidFault → Type 0
IsRefusal kind fault = (fault ≡ OutOfMemory) ⊎ (fault ≡ Outside kind)

-- A module with such a fault is refused so.
abbrev pub RefusesOutside : {A : Type 0} → Parts → Result A ValidFault → Type 0
RefusesOutside m r = IfSome (fault_outside m) (λ kind. IsErrAnd r (λ fault. IsRefusal kind fault))

-- A fault whose kind is want of memory is of no place.
abbrev pub IsMemoryAlone : ValidFault → Type 0
IsMemoryAlone fault = fault_kind fault ≡ faults.OutOfMemory → fault ≡ OutOfMemory

-- A body breaks a rule at a place: that of a function of the module itself, counted from 0. The answer's function
-- counts the imported ones.
pub record BreaksOwn (m : Parts) (own : ℕ) (kind : Fault) (function place : ℕ) : Type 0 where
  pub index : ℕ
  pub func_type : FuncType
  pub body : Body
  pub function_is : function ≡ length (imported_functions m) + own
  pub has_index : slice_get m.functions own ≡ Some index
  pub has_type : slice_get m.types index ≡ Some func_type
  pub has_body : slice_get m.bodies own ≡ Some body
  pub breaks : BreaksAt (in_function (context_of m) func_type body) body.code kind place

abbrev pub RefusedOwn : Parts → ℕ → ValidFault → Type 0
RefusedOwn m own OutOfMemory = ⊤
RefusedOwn m own (Outside kind) = ⊥
RefusedOwn m own (InBody kind function place) = BreaksOwn m own kind function place

-- A body is typed.
abbrev pub IsTypedOwn : Parts → ℕ → Type 0
IsTypedOwn m own =
    (index : ℕ) (t : FuncType) (body : Body) → slice_get m.functions own ≡ Some index
    → slice_get m.types index ≡ Some t →
    slice_get m.bodies own ≡ Some body → IsTyped (in_function (context_of m) t body) body.code

-- The first body that isn't typed breaks a rule at a place.
pub record BreaksFirst (m : Parts) (kind : Fault) (function place : ℕ) : Type 0 where
  pub own : ℕ
  pub breaks_own : BreaksOwn m own kind function place
  pub earlier : (k : ℕ) → k < own → IsTypedOwn m k

abbrev pub RefusedBodies : Parts → ValidFault → Type 0
RefusedBodies m OutOfMemory = ⊤
RefusedBodies m (Outside kind) = ⊥
RefusedBodies m (InBody kind function place) = BreaksFirst m kind function place

-- Memory ran out, or this is the first fault: of the rules outside bodies, and then of the bodies in order.
abbrev pub IsRefused : Parts → ValidFault → Type 0
IsRefused m OutOfMemory = ⊤
IsRefused m (Outside kind) = fault_outside m ≡ Some kind
IsRefused m (InBody kind function place) = (fault_outside m ≡ None) × BreaksFirst m kind function place
