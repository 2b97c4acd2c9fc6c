-- How the runs of a module by a call end, and how its threads can end.
use Rattle.std.specs.Prelude.{ℕ, ◌≡◌, ◌≤◌, ◌⊎◌, Bool, List, length, Contains, Option, Some, None}
use Rattle.types.specs.declared.value.Value.{Value}
use Rattle.types.specs.declared.event.Entry.{Entry}
use Rattle.types.specs.declared.parts.FuncType.{FuncType}
use Rattle.types.specs.declared.parts.Body.{Body}
use Rattle.types.specs.declared.parts.Parts.{Parts}
use Rattle.schedule.specs.System.{State}
use Rattle.schedule_threads.specs.Shared.{Shared}
use Rattle.spawn_host.specs.Entries.{StartsThreads, IsThreadStart}
use Rattle.spawn_host.specs.declared.end.EndState.{EndState}
use Rattle.spawn_host.specs.Requests.{Requested}
use Rattle.spawn_host.specs.RunEnds.{EndsRun}
use Rattle.interp_trait.specs.Turns.{spawned_in}
use Rattle.search_threads.specs.Unlimited.{Unlimited.Going}
use Rattle.search_reach.specs.Found.{Claims}
use Rattle.search_reach.specs.declared.search.Verdict.{Verdict}
use Rattle.search_reach.specs.declared.search.Verdict.TheVariants as verdicts
use Rattle.search_parts.specs.Rests.{RunsOn}
use Rattle.search_runs.specs.Called.{Called, Walker as Thread}
use Rattle.search_endings.specs.Endings.{Ending, reported_ending}
use Rattle.search_runs.specs.Ends.{HasEndedSo}
use Rattle.search_runs.specs.Theorems.{CanReach, IsScheduled}
use Rattle.search_modules.specs.Returned.{IsCall, AllHadEnough}

-- Every run of the module by this call, over a memory that loses tries or not, with a log or without one, and whatever
-- its budget: where all its threads had units and room enough, its ending is there, with so many first bytes.
abbrev pub HasEveryEnding : Parts → List ℕ → List Value → ℕ → List Ending → Type 0
HasEveryEnding m entry args dump endings =
    (fuel : ℕ) (loses : Bool) (limit : Option ℕ) (history : List Entry) (end : EndState)
    → EndsRun m entry args fuel loses limit history end → AllHadEnough end
    → Contains endings (reported_ending dump end.threads.items end.pages end.bytes.items)

-- Of those runs the endings of all that have at most so many entries are there.
abbrev pub HasEveryEndingWithin : Parts → List ℕ → List Value → ℕ → List Ending → ℕ → Type 0
HasEveryEndingWithin m entry args dump endings most =
    (fuel : ℕ) (loses : Bool) (limit : Option ℕ) (history : List Entry) (end : EndState)
    → EndsRun m entry args fuel loses limit history end → AllHadEnough end
    → length history ≤ most → Contains endings (reported_ending dump end.threads.items end.pages end.bytes.items)

-- What the verdict says of endings that are looked for: that one of the list is, or none.
pub record HasSought (Sought : Ending → Type 0) (verdict : Verdict) (endings : List Ending) : Type 0 where
  pub some : verdict ≡ verdicts.Sought → (e : Ending) × Contains endings e × Sought e
  pub none : (verdict ≡ verdicts.Sought → ⊥) → (e : Ending) → Contains endings e → Sought e → ⊥

-- Threads of the module without budgets can end so by this call, and the machine of a run comes there too, along some
-- turns and with some budget.
pub record CanEndSo (m : Parts) (entry : List ℕ) (args : List Value) (dump : ℕ) (e : Ending) : Type 0 where
  pub called : Called
  pub call : IsCall m entry args called
  pub end : State Shared Thread
  pub reached : CanReach called end
  pub scheduled : IsScheduled called end
  pub ended : HasEndedSo dump end e

abbrev pub AllCanEndSo : Parts → List ℕ → List Value → ℕ → List Ending → Type 0
AllCanEndSo m entry args dump endings = (e : Ending) → Contains endings e → CanEndSo m entry args dump e

-- The number of the function that spawned threads call, where the module can start some.
abbrev pub IsWorkerOf : Parts → Option ℕ → Type 0
IsWorkerOf m None = StartsThreads m → ⊥
IsWorkerOf m (Some own) = StartsThreads m × (func_type : FuncType) × (body : Body) × IsThreadStart m own func_type body

-- Thread n stands where a spawned one begins, in a module that can start none, so that no function is known for that.
abbrev pub BeginsUnknown : Parts → Called → ℕ → Thread → Type 0
BeginsUnknown m b n v = (StartsThreads m → ⊥) × (arg : ℕ) × (v ≡ Going (spawned_in b.worker n arg))

-- Threads of the module without budgets can come by this call to where nothing can be told of one of them.
pub record CanBeLost (m : Parts) (entry : List ℕ) (args : List Value) : Type 0 where
  pub called : Called
  pub call : IsCall m entry args called
  pub state : State Shared Thread
  pub reached : CanReach called state
  pub thread : ℕ
  pub lost : RunsOn called (state.threads thread) ⊎ BeginsUnknown m called thread (state.threads thread)

-- What a search of this call claims: its list has the ending of every run, threads can end as each of the list says,
-- and they can come to where nothing can be told of one of them.
abbrev pub claims_of : Requested → ℕ → Claims Ending
claims_of r dump = record {
  complete = HasEveryEnding r.parts r.name r.args dump;
  sound = AllCanEndSo r.parts r.name r.args dump;
  lost = CanBeLost r.parts r.name r.args;
}
