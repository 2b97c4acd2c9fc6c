-- What a run of real threads gives: one history.
use Rattle.std.specs.Prelude.{ℕ, suc, ◌≡◌, ◌≢◌, ◌+◌, ◌<◌, ◌≤◌, Bool, List, [], ◌∷◌, ◌++◌, length, Option, Some, None}
use Rattle.std.specs.Prelude.{slice_index_or}
use Rattle.types.specs.declared.value.ValType.{ValType}
use Rattle.types.specs.declared.value.Value.{Value}
use Rattle.types.specs.declared.value.Value.TheVariants as values
use Rattle.types.specs.declared.event.Entry.{Entry}
use Rattle.types.specs.declared.outcome.ThreadReport.{ThreadReport}
use Rattle.types.specs.declared.limits.TheConstants.{DESK_NAME, SEATS}
use Rattle.shared_memory.specs.Memory.{Memory}
use Rattle.shared_memory.specs.WaitQueue.{WaitQueue}
use Rattle.shared_memory.specs.History.{entries_of, queue_after}
use Rattle.shared_memory.specs.Legal.{IsQueueLegal}
use Rattle.shared_memory.specs.Access.{IsSeen}
use Rattle.waiters.specs.Queue.{arg_of}
use Rattle.schedule.specs.Machine.{Thread.Runs}
use Rattle.interp_machine.specs.Program.{Program}
use Rattle.interp_machine.specs.Config.{Config}
use Rattle.interp_machine.specs.State.{At}
use Rattle.interp_trait.specs.Turns.{Running, Meaning, IsHere}
use Rattle.spawn_host_workers.specs.Ends.{RunsOut}
use Rattle.spawn_host_workers.specs.declared.worker.WorkerEnd.{WorkerEnd}
use Rattle.spawn_host_workers.specs.OverMemory.{OverMemory}

-- The reports of those that ran, in order, and the seats of all.
abbrev pub with_report : Option ThreadReport → List ThreadReport → List ThreadReport
with_report None reports = reports
with_report (Some report) reports = report ∷ reports

abbrev pub reported : {S G : Type 0} → List (WorkerEnd S G) → List ThreadReport
reported [] = []
reported (end ∷ ends) = with_report end.report (reported ends)

abbrev pub seats_of : {S G : Type 0} → List (WorkerEnd S G) → List S
seats_of [] = []
seats_of (end ∷ ends) = end.seat ∷ seats_of ends

-- A thread ran as it was reported: from a list in which it has no entry, to one that the history goes on from without
-- it. So the acts of its run are its entries in the history.
pub record IsReport (loses : Bool) (opening : Memory) (limit : Option ℕ) (n : ℕ) (p : Program) (first : Running)
    (fuel : ℕ)
    (report : ThreadReport)
    (begun history : List Entry) : Type 0 where
  pub last : List Entry
  pub more : List Entry
  pub fresh : entries_of n begun ≡ []
  pub run : RunsOut p loses opening limit n first report.outcome report.spent fuel begun last
  pub list : history ≡ last ++ more
  pub silent : entries_of n more ≡ []

-- A spawned thread ran as it was reported, from a list in which it was spawned with this argument.
pub record IsSpawnReport (loses : Bool) (opening : Memory) (limit : Option ℕ) (n arg : ℕ) (m : Meaning)
    (report : ThreadReport) (history : List Entry) : Type 0 where
  pub begun : List Entry
  pub spawned : arg_of (queue_after begun) n ≡ Some arg
  pub ran : (types : List ValType) (start : List Value → Config) → m.begins types start
      → IsReport loses opening limit n m.program (Runs (At (start (values.I32 n ∷ values.I32 arg ∷ []))) m.fuel)
      m.fuel report begun history

-- All 65 seats have seen one list, which is legal for the memory and for the wait queue. Only thread 0 and those that
-- were spawned have entries in it. These are reported, in order of their numbers, and each ran as it was reported.
pub record IsComposed {S T : Type 0} (mem : OverMemory S) (meaning : T → Meaning) (first : T) (spawned : List T)
    (threads : List ThreadReport) (seats : List S) : Type 0 where
  pub history : List Entry
  pub len : length seats ≡ SEATS
  pub names : (k : ℕ) (d : S) → k < SEATS → mem.name (slice_index_or seats k d) ≡ k
  pub seen_by : (k : ℕ) (d : S) → k < SEATS → mem.seen (slice_index_or seats k d) ≡ history
  pub legal : IsSeen mem.opening history
  pub queue : IsQueueLegal history
  pub silent : (n : ℕ) → n ≤ DESK_NAME → n ≢ 0 → arg_of (queue_after history) n ≡ None → entries_of n history ≡ []
  pub count : length threads ≡ length (WaitQueue.args (queue_after history)) + 1
  pub leads : (d : ThreadReport) (t : Running) → (meaning first).stands t → IsHere t
      → IsReport mem.loses mem.opening mem.limit 0 (meaning first).program t (meaning first).fuel
      (slice_index_or threads 0 d) [] history
  pub works : (k arg : ℕ) (d : ThreadReport) (e : T) → arg_of (queue_after history) (suc k) ≡ Some arg
      → IsSpawnReport mem.loses mem.opening mem.limit (suc k) arg (meaning (slice_index_or spawned k e))
      (slice_index_or threads (suc k) d) history
