-- The turns of a module's threads keep the laws of turns.
use Rattle.std.specs.Prelude.{◌≡◌, ◌<◌, ◌⊎◌, ℕ, true, List, [], ◌∷◌, length, map}
use Rattle.allowed_races.specs.declared.allowed.Allowed.{Allowed}
use Rattle.types.specs.declared.value.ValType.TheVariants as types
use Rattle.types.specs.declared.value.Value.{Value}
use Rattle.types.specs.declared.value.Value.TheVariants as values
use Rattle.types.specs.declared.parts.FuncType.{FuncType}
use Rattle.types.specs.declared.parts.Body.{Body}
use Rattle.types.specs.declared.parts.Parts.{Parts}
use Rattle.types.specs.Values.{type_of}
use Rattle.validate_typing.specs.Validity.{IsValid}
use Rattle.shared_memory.specs.WaitQueue.{is_asleep}
use Rattle.schedule.specs.System.{Want.Awaits, State}
use Rattle.schedule_threads.specs.Shared.{Shared}
use Rattle.interp_machine.specs.Config.{Config, Fresh}
use Rattle.interp_machine.specs.Program.{program_of}
use Rattle.interp_machine.specs.Step.{next}
use Rattle.interp_machine.specs.State.{At}
use Rattle.interp.specs.Starts.{IsFunction, start_of}
use Rattle.interp_laws.specs.NeverStuck.{IsDefined}
use Rattle.search_threads.specs.Unlimited.{Unlimited.Going}
use Rattle.search_ample.specs.Turns.{AreTurns}
use Rattle.search_runs.specs.Called.{Called, Walker, system_of}
use Rattle.search_runs.specs.Theorems.{CanReach}
use Rattle.search_apart.specs.Turning.{turns_of}

-- What a spawned thread is called with: its number and the argument of its spawn (wasi-threads).
abbrev pub spawn_values : ℕ → ℕ → List Value
spawn_values n arg = values.I32 n ∷ values.I32 arg ∷ []

-- Threads begin before their first step (of spawned ones it is asked where there is a function to spawn with: an
-- imported one). And wherever threads come, what comes next of each that runs is defined.
pub record NobodyIsStuck (b : Called) : Type 0 where
  pub main : Config.progress b.main ≡ Fresh
  pub worker : 0 < b.program.imported → (n arg : ℕ) → Config.progress (b.worker (spawn_values n arg)) ≡ Fresh
  pub defined : (w : State Shared Walker) → CanReach b w → (n : ℕ) (c : Config) → w.threads n ≡ Going (At c)
      → IsDefined (next b.program c)

-- Then a thread that awaits an answer, wherever threads come, sleeps in the queue.
abbrev pub WhoAwaitsSleeps : Type 0
WhoAwaitsSleeps = (b : Called) → NobodyIsStuck b → (w : State Shared Walker) → CanReach b w
    → (n : ℕ) → (system_of b).wants (w.threads n) ≡ Awaits → is_asleep w.shared.queue n ≡ true

-- And turns keep the laws, whatever may race.
abbrev pub TurnsAreApart : Type 0
TurnsAreApart = (b : Called) (allowed : Allowed) → NobodyIsStuck b → AreTurns (turns_of b allowed)

-- Thread 0 calls a function of the module itself with arguments of its type.
pub record IsMain (m : Parts) (c : Config) : Type 0 where
  pub own : ℕ
  pub func_type : FuncType
  pub body : Body
  pub function : IsFunction m own func_type body
  pub args : List Value
  pub typed : map type_of args ≡ func_type.params
  pub is : c ≡ start_of m func_type body args

-- A spawned thread calls a function of the module itself, which takes its number and the argument of its spawn.
pub record IsWorker (m : Parts) (worker : List Value → Config) : Type 0 where
  pub own : ℕ
  pub func_type : FuncType
  pub body : Body
  pub function : IsFunction m own func_type body
  pub takes : func_type.params ≡ types.I32 ∷ types.I32 ∷ []
  pub is : (n arg : ℕ) → worker (spawn_values n arg) ≡ start_of m func_type body (spawn_values n arg)

-- A call of a module; where it imports no function, it starts no thread.
pub record IsCallOf (m : Parts) (b : Called) : Type 0 where
  pub program : b.program ≡ program_of m
  pub main : IsMain m b.main
  pub worker : (b.program.imported ≡ 0) ⊎ IsWorker m b.worker

-- In no call of a valid module, with a body for each function, anybody is stuck.
abbrev pub NobodyIsStuckInCalls : Type 0
NobodyIsStuckInCalls =
    (m : Parts) → IsValid m → length m.functions ≡ length m.bodies
    → (b : Called) → IsCallOf m b → NobodyIsStuck b
