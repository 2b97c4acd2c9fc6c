-- The log of a run and the history that its seats saw.
use Rattle.std.specs.Prelude.{ℕ, ◌≡◌, Bool, List, Option}
use Rattle.std.specs.List.{All}
use Rattle.types.specs.declared.value.Value.{Value}
use Rattle.types.specs.declared.event.Entry.{Entry}
use Rattle.types.specs.declared.outcome.ThreadReport.{ThreadReport}
use Rattle.types.specs.declared.parts.Parts.{Parts}
use Rattle.shared_memory.specs.Memory.{Memory}
use Rattle.shared_memory_on_table.specs.declared.view.Caller.{Caller}
use Rattle.spawn_host_workers.specs.OverMemory.{OverMemory}
use Rattle.spawn_host.specs.Runs.{IsRun}
use Rattle.locked_recorder.specs.Promises.{Begins, IsRecord}

-- A memory whose seats have their callers' names, and have seen what their callers have.
abbrev pub of_callers : {S : Type 0} → (S → Caller) → Bool → Memory → Option ℕ → OverMemory S
of_callers caller loses opening limit = record {
  loses = loses;
  opening = opening;
  limit = limit;
  name = λ s. (caller s).name;
  seen = λ s. (caller s).seen;
}

-- With the seats of a whole run, the log that a recorder gives up is the history that they all saw: neither longer nor
-- another. The list of each seat begins that log, which has of its name what it has, and has entries of no other names.
abbrev pub TheLogIsTheHistorySeen : Type 0 → Type 0
TheLogIsTheHistorySeen S =
    (caller : S → Caller) (m : Parts) (entry : List ℕ) (args : List Value) (fuel : ℕ) (loses : Bool) (opening : Memory)
    (limit : Option ℕ)
    (threads : List ThreadReport) (seats : List S) (log : List Entry) (count : ℕ) (contents : List ℕ)
    → (run : IsRun m entry args fuel (of_callers caller loses opening limit) threads seats)
    → All (λ s. Begins (caller s) log) seats
    → IsRecord opening log count contents
    → log ≡ run.history
