-- Which functions the threads of a run call.
use Rattle.std.specs.Prelude.{ℕ, ◌≡◌, ◌≢◌, ◌<◌, List, [], ◌∷◌, length, map, codes}
use Rattle.types.specs.declared.value.ValType.TheVariants as types
use Rattle.types.specs.declared.value.Value.{Value}
use Rattle.types.specs.declared.value.Value.TheVariants as values
use Rattle.types.specs.declared.parts.FuncType.{FuncType}
use Rattle.types.specs.declared.parts.Body.{Body}
use Rattle.types.specs.declared.parts.Parts.{Parts}
use Rattle.types.specs.Values.{type_of}
use Rattle.validate_typing.specs.Context.{imported_functions}
use Rattle.validate_module_rules.specs.Exported.{IsExported}
use Rattle.interp_machine.specs.State.{State, At}
use Rattle.interp.specs.Starts.{IsFunction, start_of}

-- The module exports a function of its own by this name: the one of this number, from 0 without the imported ones, of
-- this type and with this body.
pub record Exports (m : Parts) (name : List ℕ) (own : ℕ) (t : FuncType) (b : Body) : Type 0 where
  pub exported : IsExported m name own
  pub function : IsFunction m own t b

-- It exports none of its own by this name.
abbrev pub IsUnknown : Parts → List ℕ → Type 0
IsUnknown m name = (own : ℕ) → IsExported m name own → ⊥

-- The arguments are of the types of the exported function's parameters, in number and order;
pub record Takes (m : Parts) (name : List ℕ) (args : List Value) : Type 0 where
  pub own : ℕ
  pub func_type : FuncType
  pub body : Body
  pub exports : Exports m name own func_type body
  pub fit : map type_of args ≡ func_type.params

-- or they aren't.
pub record Refuses (m : Parts) (name : List ℕ) (args : List Value) : Type 0 where
  pub own : ℕ
  pub func_type : FuncType
  pub body : Body
  pub exports : Exports m name own func_type body
  pub unfit : map type_of args ≢ func_type.params

-- The module can start threads: it imports `thread-spawn`.
abbrev pub StartsThreads : Parts → Type 0
StartsThreads m = 0 < length (imported_functions m)

-- The function that spawned threads call: it takes a number and an argument, and gives nothing (wasi-threads).
pub record IsThreadStart (m : Parts) (own : ℕ) (t : FuncType) (b : Body) : Type 0 where
  pub exports : Exports m (codes "wasi_thread_start") own t b
  pub params : t.params ≡ types.I32 ∷ types.I32 ∷ []
  pub results : t.results ≡ []

-- A spawned thread begins with a call of it, by its number and the argument of its spawn.
pub record CallsThreadStart (m : Parts) (spawned : ℕ → ℕ → State) : Type 0 where
  pub own : ℕ
  pub func_type : FuncType
  pub body : Body
  pub is_start : IsThreadStart m own func_type body
  pub begins : (n arg : ℕ) → spawned n arg ≡ At (start_of m func_type body (values.I32 n ∷ values.I32 arg ∷ []))
