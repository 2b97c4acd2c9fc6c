-- The types of the operands at a place of a function of a valid module. Functions of the module itself are counted from
-- 0 without the imported ones.
use Rattle.std.specs.Prelude.{◌≡◌, ◌⊎◌, ℕ, ◌≤◌, List, length, Option, Some}
use Rattle.std.specs.Option.{MatchOption}
use Rattle.std.specs.Global.{Vec}
use Rattle.std.specs.List.{slice_get}
use Rattle.types.specs.declared.value.ValType.{ValType}
use Rattle.types.specs.declared.parts.FuncType.{FuncType}
use Rattle.types.specs.declared.parts.Body.{Body}
use Rattle.types.specs.declared.parts.Parts.{Parts}
use Rattle.validate_typing.specs.Context.{context_of, in_function}
use Rattle.validate_bodies.specs.Reached.{Reached, CutOff}
use Rattle.validate_module.specs.Own.{IsOwn}

-- Before its instruction with this number its frame has operands of these types, the topmost last.
pub record HasOwnOperands (m : Parts) (own place : ℕ) (types : List ValType) : Type 0 where
  pub func_type : FuncType
  pub body : Body
  pub is_own : IsOwn m own func_type body
  pub reached : Reached (in_function (context_of m) func_type body) body.code place types

-- There is no such function, or its body is shorter, or the place can't be reached.
abbrev pub LacksOperands : Parts → ℕ → ℕ → Type 0
LacksOperands m own place = (length m.bodies ≤ own) ⊎ ((body : Body) × (slice_get m.bodies own ≡ Some body)
    × ((length body.code ≤ place) ⊎ CutOff body.code place))

-- The types that are answered for a place, and none where there are none.
abbrev pub OwnOperandsAt : Parts → ℕ → ℕ → Option (Vec ValType) → Type 0
OwnOperandsAt m own place found =
    MatchOption found (LacksOperands m own place) (λ types. HasOwnOperands m own place types.items)
