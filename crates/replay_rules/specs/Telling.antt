-- What threads did together, and a record that tells it.
use Rattle.std.specs.Prelude.{ℕ, ◌≡◌, ◌+◌, false, length, Some}
use Rattle.std.specs.List.{slice_get}
use Rattle.types.specs.declared.outcome.Outcome.{Outcome}
use Rattle.types.specs.declared.outcome.ThreadReport.{ThreadReport}
use Rattle.types.specs.declared.limits.TheConstants.{MOST_THREADS}
use Rattle.shared_memory.specs.Memory.{pages}
use Rattle.shared_memory.specs.WaitQueue.{WaitQueue}
use Rattle.shared_memory.specs.History.{memory_after, queue_after}
use Rattle.schedule_runs.specs.Runs.{Start, RanTogether}
use Rattle.replay_text.specs.declared.parts.RecordParts.{RecordParts}
use Rattle.replay_rules.specs.Recorded.{IsRecordedRun}

-- The record has as many threads as a run may have. The end lines are of thread 0 and of the threads that were spawned
-- in the log, with their outcomes and units, and the pages line is of the memory after it.
pub record RecordTells (b : Start) (r : RecordParts) (outcomes : ℕ → Outcome) (lefts : ℕ → ℕ) : Type 0 where
  pub threads : r.threads ≡ MOST_THREADS
  pub count : length r.ends ≡ length (WaitQueue.args (queue_after r.log)) + 1
  pub reports : (n : ℕ) (report : ThreadReport) → slice_get r.ends n ≡ Some report → (report.outcome ≡ outcomes n)
      × (report.spent + lefts n ≡ r.fuel)
  pub pages_are : r.pages ≡ pages (memory_after b.opening r.log)

-- A record that tells what threads did together is of a run that ends with the memory after its log.
abbrev pub RunsAreRecorded : Type 0
RunsAreRecorded =
    (b : Start) (r : RecordParts) (outcomes : ℕ → Outcome) (lefts : ℕ → ℕ)
    → RanTogether b false (Some r.limit) r.log outcomes lefts
    → RecordTells b r outcomes lefts
    → IsRecordedRun b r (memory_after b.opening r.log)
