-- The threads of a run before their first turn.
use Rattle.std.specs.Prelude.{ℕ, ◌≡◌, ◌⊎◌, List, [], length}
use Rattle.std.specs.List.{All}
use Rattle.types.specs.declared.value.Value.{Value}
use Rattle.types.specs.declared.parts.FuncType.{FuncType}
use Rattle.types.specs.declared.parts.Body.{Body}
use Rattle.types.specs.declared.parts.Parts.{Parts}
use Rattle.types.specs.declared.limits.TheConstants.{MOST_SPAWNED}
use Rattle.schedule.specs.Machine.{Thread.Runs}
use Rattle.interp_machine.specs.Program.{program_of}
use Rattle.interp_machine.specs.State.{At}
use Rattle.interp_trait.specs.Turns.{Meaning}
use Rattle.interp.specs.Starts.{start_of}
use Rattle.spawn_host.specs.Entries.{Takes, StartsThreads, IsThreadStart}
use Rattle.spawn_host.specs.Requests.{Requested}

module _ {T : Type 0} (meaning : T → Meaning) where
  -- A thread is about to call a function of this type and with this body, with these arguments, and has its whole
  -- budget.
  pub record IsCall (m : Parts) (t : FuncType) (b : Body) (args : List Value) (budget : ℕ) (thread : T) : Type 0 where
    pub program_is : (meaning thread).program ≡ program_of m
    pub fuel_is : (meaning thread).fuel ≡ budget
    pub stands_so : (meaning thread).stands (Runs (At (start_of m t b args)) budget)
    pub begins_so : (meaning thread).begins t.params (start_of m t b)

  -- Thread 0 is about to call the function that is exported by the name, with the arguments.
  pub record IsFirst (m : Parts) (name : List ℕ) (args : List Value) (budget : ℕ) (thread : T) : Type 0 where
    pub takes : Takes m name args
    pub call : IsCall m takes.func_type takes.body args budget thread

  -- The same of what is requested.
  abbrev pub BeginsRequest : Requested → T → Type 0
  BeginsRequest r thread = IsFirst r.parts r.name r.args r.fuel thread

  -- The 63 threads that can be spawned are about to call the function for that, with some arguments.
  pub record AreSpawnable (m : Parts) (args : List Value) (budget : ℕ) (threads : List T) : Type 0 where
    pub count : length threads ≡ MOST_SPAWNED
    pub own : ℕ
    pub func_type : FuncType
    pub body : Body
    pub is_start : IsThreadStart m own func_type body
    pub calls : All (IsCall m func_type body args budget) threads

  -- The threads beside thread 0: those that can be spawned, or none, where the module can start none.
  abbrev pub BeginBeside : Requested → List T → Type 0
  BeginBeside r threads =
      (StartsThreads r.parts × ((args : List Value) × AreSpawnable r.parts args r.fuel threads))
      ⊎ ((StartsThreads r.parts → ⊥) × (threads ≡ []))
