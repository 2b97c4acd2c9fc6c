-- How the threads of a module have ended.
use Rattle.std.specs.Prelude.{ℕ, ◌≡◌, ◌≤◌, length, take, Some}
use Rattle.std.specs.List.{slice_get}
use Rattle.types.specs.declared.outcome.Outcome.{Outcome}
use Rattle.shared_memory.specs.Memory.{Memory, pages}
use Rattle.shared_memory.specs.WaitQueue.{next_id}
use Rattle.schedule.specs.System as systems
use Rattle.schedule_threads.specs.Shared.{Shared}
use Rattle.search_threads.specs.Unlimited.{Unlimited.Missing, Unlimited.Away}
use Rattle.search_endings.specs.Endings.{Ending}
use Rattle.search_runs.specs.Called.{Walker}

-- In a state all threads that were started have left, with these outcomes, and the memory is so.
pub record HasEndedSo (dump : ℕ) (w : systems.State Shared Walker) (e : Ending) : Type 0 where
  pub count : length e.outcomes ≡ next_id w.shared.queue
  pub left : (m : ℕ) (o : Outcome) → slice_get e.outcomes m ≡ Some o → w.threads m ≡ Away o
  pub others : (m : ℕ) → next_id w.shared.queue ≤ m → w.threads m ≡ Missing
  pub pages_are : e.pages ≡ pages w.shared.memory
  pub bytes_are : e.bytes ≡ take dump (Memory.bytes w.shared.memory)
