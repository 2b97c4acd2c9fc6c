-- The functions of a module itself: they are counted from 0 without the imported ones.
use Rattle.std.specs.Prelude.{◌≡◌, ℕ, ◌+◌, ◌≤◌, List, length, Option, Some}
use Rattle.std.specs.Option.{MatchOption}
use Rattle.std.specs.Global.{Vec}
use Rattle.std.specs.List.{slice_get, All}
use Rattle.types.specs.declared.value.ValType.{ValType}
use Rattle.types.specs.declared.parts.FuncType.{FuncType}
use Rattle.types.specs.declared.parts.Body.{Body}
use Rattle.types.specs.declared.parts.Parts.{Parts}
use Rattle.validate_typing.specs.Context.{imported_functions, context_of, in_function}
use Rattle.validate_typing.specs.declared.target.Target.{Target}
use Rattle.validate_typing.specs.Tabled.{WithTables, target_at}
use Rattle.validate_module_rules.specs.Exported.{HasTypeIndices}
use Rattle.validate_typing.specs.Validity.{IsValidType}

-- Each function has a type that is there, and each type one result at most.
pub record HasTypedFunctions (m : Parts) : Type 0 where
  pub types : All IsValidType m.types
  pub functions : HasTypeIndices m

-- The function with this number has this type.
abbrev pub HasOwnType : Parts → ℕ → FuncType → Type 0
HasOwnType m own t = (index : ℕ) × (slice_get m.functions own ≡ Some index) × (slice_get m.types index ≡ Some t)

-- The type that is answered of it, and none where there is no such function; what is answered is read so.
abbrev pub FindsTypeAs : {B : Type 0} → Parts → ℕ → Option B → (B → FuncType) → Type 0
FindsTypeAs m own answer read = MatchOption answer (length m.functions ≤ own) (λ t. HasOwnType m own (read t))

-- The function with this number has this type and this body.
pub record IsOwn (m : Parts) (own : ℕ) (func_type : FuncType) (body : Body) : Type 0 where
  pub index : ℕ
  pub has_index : slice_get m.functions own ≡ Some index
  pub has_type : slice_get m.types index ≡ Some func_type
  pub has_body : slice_get m.bodies own ≡ Some body

-- Its locals have these types, the parameters first (Core specification 1.0, section 3.4.1).
pub record HasLocals (m : Parts) (own : ℕ) (types : List ValType) : Type 0 where
  pub func_type : FuncType
  pub body : Body
  pub is_own : IsOwn m own func_type body
  pub locals : types ≡ (in_function (context_of m) func_type body).locals

-- The types that are answered of its locals, and none where there is no such function.
abbrev pub FindsLocals : Parts → ℕ → Option (Vec ValType) → Type 0
FindsLocals m own answer = MatchOption answer (length m.bodies ≤ own) (λ types. HasLocals m own types.items)

-- The target that is answered of a function, counted with the imported ones, where it is one of the module itself.
abbrev pub FindsTarget : WithTables → ℕ → ℕ → ℕ → Option Target → Type 0
FindsTarget v function place which answer =
    (own : ℕ) → function ≡ length (imported_functions v.parts) + own → answer ≡ target_at v own place which
