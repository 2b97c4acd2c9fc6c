-- What is searched: a call of a module's function.
use Rattle.std.specs.Prelude.{ℕ, ◌&&◌, Bool, true, false, List, [], ◌∷◌, map, Option, Some, None}
use Rattle.std.specs.List.{slice_get}
use Rattle.std.specs.Cmp.Lexicographic.{pointwise}
use Rattle.types.specs.declared.value.ValType.{ValType}
use Rattle.types.specs.declared.value.ValType.TheVariants as types
use Rattle.types.specs.declared.value.Value.{Value}
use Rattle.types.specs.declared.parts.FuncType.{FuncType}
use Rattle.types.specs.declared.parts.Body.{Body}
use Rattle.types.specs.declared.parts.Parts.{Parts}
use Rattle.types.specs.Equal.{is_type}
use Rattle.types.specs.Values.{type_of}
use Rattle.shared_memory_sequential.specs.Opening.{can_open}
use Rattle.interp_machine.specs.Config.{Config}
use Rattle.interp_machine.specs.Program.{program_of}
use Rattle.interp.specs.Starts.{start_of}
use Rattle.search_runs.specs.Called.{Called}

-- The type of a function of the module itself, from 0, and its body.
abbrev pub type_at : Parts → Option ℕ → Option FuncType
type_at m None = None
type_at m (Some index) = slice_get m.types index

abbrev pub type_of_function : Parts → ℕ → Option FuncType
type_of_function m own = type_at m (slice_get m.functions own)

-- Its call; where there is no such function, one of an empty function, which is never looked at.
abbrev pub call_by : Parts → Option FuncType → Option Body → List Value → Config
call_by m (Some t) (Some body) args = start_of m t body args
call_by m (Some t) None args = start_of m t (record { locals = []; code = [] }) args
call_by m None body args = start_of m (record { params = []; results = [] }) (record { locals = []; code = [] }) args

abbrev pub call_of : Parts → ℕ → List Value → Config
call_of m own args = call_by m (type_of_function m own) (slice_get m.bodies own) args

-- Whether there is such a function, with parameters of these types.
abbrev pub takes : Option FuncType → Option Body → List ValType → Bool
takes (Some t) (Some body) params = pointwise is_type params t.params
takes (Some t) None params = false
takes None body params = false

abbrev pub can_call : Parts → ℕ → List ValType → Bool
can_call m own params = takes (type_of_function m own) (slice_get m.bodies own) params

abbrev pub can_spawn : Parts → Option ℕ → Bool
can_spawn m None = true
can_spawn m (Some own) = can_call m own (types.I32 ∷ types.I32 ∷ [])

-- What is called: thread 0 calls one function with these arguments, and spawned threads another one, over this opening
-- memory.
abbrev pub worker_of : Parts → ℕ → Option ℕ → List Value → Config
worker_of m own None args = call_of m own args
worker_of m own (Some worker) args = call_of m worker args

abbrev pub called_of : Parts → List ℕ → ℕ → ℕ → List Value → Option ℕ → Called
called_of m opening max own args worker = record {
  program = program_of m;
  main = call_of m own args;
  worker = worker_of m own worker;
  opening = record { bytes = opening; max = max };
}

-- Whether that can be called.
abbrev pub is_callable : Parts → List ℕ → ℕ → ℕ → List Value → Option ℕ → Bool
is_callable m opening max own args worker =
    can_open opening max && (can_call m own (map type_of args) && can_spawn m worker)
