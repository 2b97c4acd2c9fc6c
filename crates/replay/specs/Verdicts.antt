-- What the end of a walk along a record's log shows of every schedule that makes the log.
use Rattle.std.specs.Prelude.{ℕ, ◌≡◌, false, Some}
use Rattle.types.specs.declared.event.Answer.{Answer}
use Rattle.types.specs.declared.parts.Parts.{Parts}
use Rattle.shared_memory.specs.Memory.{Memory}
use Rattle.shared_memory.specs.WaitQueue.{first_queue}
use Rattle.shared_memory.specs.History.{of_queue}
use Rattle.shared_memory.specs.Legal.{IsMemoryLegal, IsQueueLegalFrom, IsWellFormedFrom}
use Rattle.schedule.specs.System as systems
use Rattle.schedule.specs.Histories.{Place}
use Rattle.schedule_threads.specs.Shared.{Shared, try_rules}
use Rattle.schedule_runs.specs.Runs.{Start, system_of, state_for, first_places, as_acts}
use Rattle.interp_trait.specs.Turns.{Running}
use Rattle.spawn_host.specs.Runs.{opening_within}
use Rattle.replay_text.specs.declared.parts.RecordParts.{RecordParts}
use Rattle.replay_text.specs.Text.{IsRecord}
use Rattle.replay_rules.specs.Walk.{Walks}
use Rattle.replay_rules.specs.Recorded.{IsRecordedRun, IsFirstMisfit, IsFirstWrongEnd}
use Rattle.spawn_host.specs.declared.end.EndState.{EndState}
use Rattle.replay.specs.Ends.{AllAgree, IsFirstWrong}
use Rattle.replay.specs.Runs.{IsRunOf}

-- A walk takes the whole log of a record, and comes to this state, with these places.
abbrev pub WalksAlong : Start → RecordParts → systems.State Shared Running → (ℕ → Place Answer) → Type 0
WalksAlong b r z places =
    Walks (system_of b) (try_rules false (Some r.limit)) (as_acts r.log) (state_for r.threads b) first_places 0 z places

-- Where each line agrees, the record is of a run, which ends with the walk's memory;
abbrev pub AgreeingRecordsAreOfRuns : Type 0
AgreeingRecordsAreOfRuns =
    (b : Start) (r : RecordParts) (z : systems.State Shared Running) (places : ℕ → Place Answer)
    → WalksAlong b r z places
    → AllAgree r z places → IsRecordedRun b r z.shared.memory

-- the first line that doesn't agree there is the first that agrees with no schedule;
abbrev pub WrongEndsAreOfNoRun : Type 0
WrongEndsAreOfNoRun =
    (b : Start) (r : RecordParts) (z : systems.State Shared Running) (places : ℕ → Place Answer)
    → WalksAlong b r z places → (k : ℕ)
    → IsFirstWrong r z places k → IsFirstWrongEnd b r k

-- and each run that the record is of ends with the walk's memory.
abbrev pub RunsEndInOneMemory : Type 0
RunsEndInOneMemory =
    (b : Start) (r : RecordParts) (z : systems.State Shared Running) (places : ℕ → Place Answer)
    → WalksAlong b r z places → (last : Memory)
    → IsRecordedRun b r last → last ≡ z.shared.memory

-- A record with a line that is wrong, or with an entry that doesn't fit, is of no run.
abbrev pub NoRunHasAWrongEnd : Type 0
NoRunHasAWrongEnd = (b : Start) (r : RecordParts) (k : ℕ) → IsFirstWrongEnd b r k
    → (last : Memory) → IsRecordedRun b r last → ⊥

abbrev pub NoRunHasAMisfit : Type 0
NoRunHasAMisfit = (b : Start) (r : RecordParts) (k : ℕ) → IsFirstMisfit b r k
    → (last : Memory) → IsRecordedRun b r last → ⊥

-- The log of a record is legal, from the module's opening memory and the wait queue's first state on, with as many
-- pages and threads as the record says: for the memory, for the wait queue, and in the order of each thread's calls.
pub record HasLegalLog (m : Parts) (r : RecordParts) : Type 0 where
  pub memory : IsMemoryLegal (opening_within r.max_pages m) r.log
  pub queue : IsQueueLegalFrom (first_queue r.threads) (of_queue r.log)
  pub form : IsWellFormedFrom (first_queue r.threads) r.log

-- So is that of a record within its ranges that is of a run of a module.
abbrev pub LogsOfRunsAreLegal : Type 0
LogsOfRunsAreLegal =
    (m : Parts) (r : RecordParts) (end : EndState) → IsRecord r → IsRunOf m r end → HasLegalLog m r
