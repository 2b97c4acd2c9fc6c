-- Threads at rest, and what comes of one after an event of another.
use Rattle.std.specs.Prelude.{ℕ, ◌≡◌, ◌⊎◌, List, [], ◌∷◌, Option, Some, None}
use Rattle.types.specs.declared.value.ValType.TheVariants as types
use Rattle.types.specs.declared.value.Value.{Value}
use Rattle.types.specs.declared.value.Value.TheVariants as values
use Rattle.types.specs.declared.parts.FuncType.{FuncType}
use Rattle.types.specs.declared.parts.Body.{Body}
use Rattle.types.specs.declared.parts.Parts.{Parts}
use Rattle.types.specs.declared.event.Event.{Event}
use Rattle.validate_typing.specs.Tabled.{WithTables}
use Rattle.schedule.specs.System.{Want.Turns, Want.Calls}
use Rattle.schedule.specs.System as systems
use Rattle.schedule_threads.specs.Shared.{Shared}
use Rattle.interp_machine.specs.Config.{Config}
use Rattle.interp.specs.Starts.{IsFunction, start_of}
use Rattle.interp_trait.specs.Turns.{spawned_in}
use Rattle.search_threads.specs.Unlimited.{Unlimited.Going}
use Rattle.search_runs.specs.Called.{Called, Walker as Thread, system_of}
use Rattle.search_runs.specs.Theorems.{CanReach}
use Rattle.search_parts.specs.Walkers.{IsOf, StandsForThread}
use Rattle.search_parts.specs.Rests.{RunsOn}
use Rattle.search_parts.specs.declared.walker.RestingThread.{RestingThread}
use Rattle.search_parts.specs.Sharing.{Shares, Makes}
use Rattle.search_parts.specs.declared.shared.Common.{Common}
use Rattle.search_parts.specs.declared.event.Effect.{Effect}

-- A thread that makes no turn of its own, and stands so.
pub record IsRested (w : WithTables) (b : Called) (s : RestingThread) (v : Thread) : Type 0 where
  pub stands : StandsForThread w s v
  pub rests : (system_of b).wants v ≡ Turns → ⊥

-- Thread n of a state that a call of the module can reach.
pub record IsThreadIn (w : WithTables) (opening : List ℕ) (c : Common) (s : RestingThread) (n : ℕ) (b : Called)
    (z : systems.State Shared Thread) : Type 0 where
  pub of : IsOf b w
  pub reached : CanReach b z
  pub shares : Shares opening c z.shared
  pub rested : IsRested w b s (z.threads n)

-- A spawned thread calls this function of the module with its number and the argument of its spawn.
pub record IsWorkerFunction (m : Parts) (worker : List Value → Config) (own : ℕ) : Type 0 where
  pub func_type : FuncType
  pub body : Body
  pub function : IsFunction m own func_type body
  pub takes : func_type.params ≡ types.I32 ∷ types.I32 ∷ []
  pub begins : (n arg : ℕ) → worker (values.I32 n ∷ values.I32 arg ∷ []) ≡ start_of m func_type body
      (values.I32 n ∷ values.I32 arg ∷ [])

-- Where no function is known for that, nothing is said of spawned threads.
abbrev pub AreWorkers : Parts → (List Value → Config) → Option ℕ → Type 0
AreWorkers m worker None = Unit {0}
AreWorkers m worker (Some own) = IsWorkerFunction m worker own

-- Thread n of such a state made an event, and thread m stands so.
pub record IsAfter (w : WithTables) (worker : Option ℕ) (made : Effect) (n : ℕ) (s : RestingThread) (m : ℕ) (b : Called)
    (z : systems.State Shared Thread) (e : Event) : Type 0 where
  pub of : IsOf b w
  pub workers : AreWorkers w.parts b.worker worker
  pub reached : CanReach b z
  pub calls : (system_of b).wants (z.threads n) ≡ Calls e
  pub makes : Makes made z.shared n e
  pub rested : IsRested w b s (z.threads m)

-- Nothing can be told of thread m: it makes a million turns of its own, or it begins and no function is known that it
-- calls.
abbrev pub IsLost : Option ℕ → Called → systems.State Shared Thread → ℕ → Type 0
IsLost worker b z m =
    RunsOn b (z.threads m)
    ⊎ ((worker ≡ None) × (arg : ℕ) × (z.threads m ≡ Going (spawned_in b.worker m arg)))
