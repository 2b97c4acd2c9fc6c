-- What a worker does with its seat.
use Rattle.std.specs.Prelude.{ℕ, ◌≡◌, Bool, List, [], ◌∷◌, Option, Some, None}
use mathlib.Core.List.{IsPrefix}
use Rattle.types.specs.declared.value.ValType.{ValType}
use Rattle.types.specs.declared.value.Value.{Value}
use Rattle.types.specs.declared.value.Value.TheVariants as values
use Rattle.types.specs.declared.event.Entry.{Entry}
use Rattle.types.specs.declared.outcome.ThreadReport.{ThreadReport}
use Rattle.shared_memory.specs.Memory.{Memory}
use Rattle.waiters_desk.specs.Calls.{BeginsThread, NeverBegins}
use Rattle.schedule.specs.Machine.{Thread.Runs}
use Rattle.interp_machine.specs.Config.{Config}
use Rattle.interp_machine.specs.State.{At}
use Rattle.interp_trait.specs.Turns.{Meaning}
use Rattle.spawn_host_workers.specs.Ends.{IsLast, RunsOut}
use Rattle.spawn_host_workers.specs.declared.worker.WorkerEnd.{WorkerEnd}
use Rattle.interp_trait.specs.declared.gate.Gate.{Ghosts}
use Rattle.spawn_host_workers.specs.OverMemory.{OverMemory}
use Rattle.spawn_host_workers.specs.Gated.{PassesSpawned}

-- Thread n was spawned, and ran from its start to its end: the arguments are its number and the one that it was spawned
-- with.
pub record RunsSpawned (loses : Bool) (opening : Memory) (limit : Option ℕ) (n : ℕ) (m : Meaning)
    (report : ThreadReport) (before after : List Entry) : Type 0 where
  pub arg : ℕ
  pub begun : List Entry
  pub begins_with : BeginsThread opening n arg before begun
  pub ran : (types : List ValType) (start : List Value → Config) → m.begins types start
      → RunsOut m.program loses opening limit n (Runs (At (start (values.I32 n ∷ values.I32 arg ∷ []))) m.fuel)
      report.outcome report.spent
      m.fuel begun after
  pub grows : IsPrefix begun after
  pub last : IsLast opening n after

-- It did so, or nobody is left who could spawn it.
abbrev pub Works : Bool → Memory → Option ℕ → ℕ → Meaning → Option ThreadReport → List Entry → List Entry → Type 0
Works loses opening limit n m None before after = NeverBegins opening n before after
Works loses opening limit n m (Some report) before after = RunsSpawned loses opening limit n m report before after

-- A worker's end, over seats, threads and gates of any type.
pub record EndsWork {S T G : Type 0} (mem : OverMemory S) (gate : Ghosts G) (old : G) (meaning : T
    → Meaning) (thread : T) (seat : S) (end : WorkerEnd S G) : Type 0 where
  pub name_is : mem.name end.seat ≡ mem.name seat
  pub works : Works mem.loses mem.opening mem.limit (mem.name seat) (meaning thread) end.report (mem.seen seat)
      (mem.seen end.seat)
  pub gated : PassesSpawned gate (mem.name seat) (meaning thread) end.report old end.gate
