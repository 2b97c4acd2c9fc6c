-- When a run calls its gate, and what the gate is in the end.
use Rattle.std.specs.Prelude.{ℕ, suc, ◌≡◌, ◌+◌, ◌-◌, List, [], ◌∷◌, Option, Some, None, slice_get}
use Rattle.types.specs.declared.value.ValType.{ValType}
use Rattle.types.specs.declared.value.Value.{Value}
use Rattle.types.specs.declared.value.Value.TheVariants as values
use Rattle.types.specs.declared.event.Event.{Event}
use Rattle.types.specs.declared.event.Reply.{Reply}
use Rattle.types.specs.declared.event.Answer.{Answer}
use Rattle.types.specs.declared.outcome.Outcome.{Outcome}
use Rattle.types.specs.declared.outcome.ThreadReport.{ThreadReport}
use Rattle.schedule.specs.System.{Step}
use Rattle.schedule.specs.ThreadRun.{IsThreadRun}
use Rattle.schedule.specs.Machine.{Thread.Runs, Thread.Left}
use Rattle.interp_machine.specs.Program.{Program}
use Rattle.interp_machine.specs.Config.{Config}
use Rattle.interp_machine.specs.State.{State, At}
use Rattle.schedule_threads.specs.Shared.{over_memory_and_queue}
use Rattle.schedule_threads.specs.Threads.{machine_of}
use Rattle.interp_trait.specs.Turns.{Running, Meaning, IsHere, left_of}
use Rattle.interp_trait.specs.Calls.{IsCalled, calls_along}
use Rattle.interp_trait.specs.declared.gate.Gate.{Ghosts}
use Rattle.spawn_host_workers.specs.Composed.{with_report}
use Rattle.spawn_host_workers.specs.declared.worker.WorkerEnd.{WorkerEnd}

-- It is called once for thread n, with the units that the thread has spent.
abbrev pub CallsOnce : {G : Type 0} → Ghosts G → ℕ → Meaning → G → G → Type 0
CallsOnce gate n m old new = (t : Running) → m.stands t → gate.sees old n (m.fuel - left_of t) new

-- Thread n ran to this outcome, by steps of the thread machine, and its gate was called before each turn of these.
pub record PassesGate {G : Type 0} (gate : Ghosts G) (p : Program) (n : ℕ) (first : Running) (outcome : Outcome)
    (spent fuel : ℕ)
    (old new : G) : Type 0 where
  pub steps : List (Step Event Reply Answer)
  pub left : ℕ
  pub run : (start : ℕ → ℕ → State) (budget : ℕ)
      → IsThreadRun (over_memory_and_queue (machine_of p) start budget) first steps (Left outcome left)
  pub paid : spent + left ≡ fuel
  pub calls : (start : ℕ → ℕ → State) (budget : ℕ) → IsCalled gate.sees n
      (calls_along (over_memory_and_queue (machine_of p) start budget) fuel first steps) old new

-- So it was for the first thread, and for one that was spawned with some argument, as they are reported.
abbrev pub PassesFirst : {G : Type 0} → Ghosts G → ℕ → Meaning → Option ThreadReport → G → G → Type 0
PassesFirst gate n m None old new = ⊥
PassesFirst gate n m (Some report) old new = (t : Running) → m.stands t → IsHere t
    → PassesGate gate m.program n t report.outcome report.spent m.fuel old new

abbrev pub PassesSpawned : {G : Type 0} → Ghosts G → ℕ → Meaning → Option ThreadReport → G → G → Type 0
PassesSpawned gate n m None old new = new ≡ old
PassesSpawned gate n m (Some report) old new = (arg : ℕ) × ((types : List ValType) (start : List Value → Config)
    → m.begins types start → PassesGate gate m.program n (Runs (At (start (values.I32 n ∷ values.I32 arg ∷ []))) m.fuel)
    report.outcome report.spent m.fuel old new)

-- How a thread went by its gate: its report, if it ran, and the gate behind its last turn.
pub record Passage (G : Type 0) : Type 0 where
  pub report : Option ThreadReport
  pub gate : G

abbrev pub passage_of : {S G : Type 0} → WorkerEnd S G → Passage G
passage_of end = record { report = end.report; gate = end.gate }

abbrev pub reports_of : {G : Type 0} → List (Passage G) → List ThreadReport
reports_of [] = []
reports_of (x ∷ xs) = with_report x.report (reports_of xs)

module _ {G : Type 0} (gate : Ghosts G) where
  -- The gates of those that ran are gathered, one after the other.
  abbrev pub GathersIf : Option ThreadReport → G → G → G → Type 0
  GathersIf None other old new = new ≡ old
  GathersIf (Some report) other old new = gate.gathers old other new

  abbrev pub Gathers : List (Passage G) → G → G → Type 0
  Gathers [] old new = new ≡ old
  Gathers (x ∷ xs) old new = (between : G) × GathersIf x.report x.gate old between × Gathers xs between new

  -- The passage of thread n, which could be spawned; or there was none that could.
  abbrev pub PassesOther : {T : Type 0} → (T → Meaning) → ℕ → Option T → Passage G → G → Type 0
  PassesOther meaning n None x old = (x.report ≡ None) × (x.gate ≡ old)
  PassesOther meaning n (Some thread) x old = PassesSpawned gate n (meaning thread) x.report old x.gate

-- Each thread that is reported went by a gate that began as the run's, and the run's gathers them all.
pub record IsGated {G T : Type 0} (gate : Ghosts G) (meaning : T → Meaning) (first : T) (spawned : List T)
    (threads : List ThreadReport) (old new : G) : Type 0 where
  pub lead : Passage G
  pub others : List (Passage G)
  pub reports : threads ≡ reports_of (lead ∷ others)
  pub leads : PassesFirst gate 0 (meaning first) lead.report old lead.gate
  pub works : (k : ℕ) (x : Passage G) → slice_get others k ≡ Some x
      → PassesOther gate meaning (suc k) (slice_get spawned k) x old
  pub gathered : Gathers gate (lead ∷ others) old new
