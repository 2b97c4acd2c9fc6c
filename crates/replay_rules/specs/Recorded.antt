-- Recorded runs: what a record says, some schedule without lost tries makes.
use Rattle.std.specs.Prelude.{ℕ, ◌≡◌, ◌+◌, ◌<◌, ◌≤◌, false, List, length, Option, Some, None}
use Rattle.std.specs.List.{slice_get}
use Rattle.types.specs.declared.value.Value.{Value}
use Rattle.types.specs.declared.event.Answer.{Answer}
use Rattle.types.specs.declared.outcome.ThreadReport.{ThreadReport}
use Rattle.shared_memory.specs.Memory.{Memory, pages}
use Rattle.schedule.specs.System as systems
use Rattle.schedule.specs.System.{Mark}
use Rattle.schedule.specs.Scheduled.{scheduled_run}
use Rattle.schedule.specs.Histories.{Place, Place.Unstarted, Place.Free, places_after}
use Rattle.schedule.specs.Machine.{Thread.Left}
use Rattle.interp_machine.specs.Program.{Program}
use Rattle.interp_machine.specs.Config.{Config}
use Rattle.interp_machine.specs.State.{At}
use Rattle.schedule_threads.specs.Shared.{Shared, try_rules}
use Rattle.schedule_runs.specs.Runs.{Start, system_of, shared_for, state_for, first_places, as_acts}
use Rattle.interp_trait.specs.Turns.{Running, spawned_in}
use Rattle.replay_text.specs.declared.parts.RecordParts.{RecordParts}
use Rattle.replay_rules.specs.Logs as logs

-- What a run starts with: its program, the call of thread 0, that of a spawned thread, the budget and the opening
-- memory.
abbrev pub start_of : Program → Config → (List Value → Config) → ℕ → Memory → Start
start_of p main worker fuel opening = record {
  program = p;
  main = At main;
  spawned = spawned_in worker;
  fuel = fuel;
  opening = opening;
}

module _ (r : RecordParts) (z : systems.State Shared Running) (places : ℕ → Place Answer) where
  -- In a state, with these places, a thread has left, with this outcome and after so many units, and has heard the
  -- answer to its leave.
  abbrev pub HasLeft : ℕ → ThreadReport → Type 0
  HasLeft m report = (left : ℕ) × (z.threads m ≡ Left report.outcome left) × (report.spent + left ≡ r.fuel)
      × (places m ≡ Free)

  -- An end line agrees where its thread has left so. The pages line stands behind the end lines: it agrees where the
  -- memory has so many pages, and no thread was started that has no end line.
  abbrev pub EndAgrees : ℕ → Option ThreadReport → Type 0
  EndAgrees m (Some report) = HasLeft m report
  EndAgrees m None = (pages z.shared.memory ≡ r.pages) × ((k : ℕ) → m ≤ k → places k ≡ Unstarted)

  abbrev pub LineAgrees : ℕ → Type 0
  LineAgrees m = EndAgrees m (slice_get r.ends m)

module _ (b : Start) (r : RecordParts) where
  -- The run has as many threads as the record says at most. A schedule without lost tries makes the log: that is legal,
  -- no entry but an answer or a leave passes the limit, and a thread finds the log full only where it has reached the
  -- limit before the thread's leave.
  abbrev pub MakesLog : List Mark → Type 0
  MakesLog S = logs.MakesLog (system_of b) (try_rules false (Some r.limit)) (state_for r.threads b) first_places
      (as_acts r.log) S

  abbrev pub state_along : List Mark → systems.State Shared Running
  state_along S = scheduled_run (system_of b) (state_for r.threads b) S

  abbrev pub last_places : ℕ → Place Answer
  last_places = places_after (system_of b) (shared_for r.threads b) first_places (as_acts r.log)

  -- The record is of a run that ends with this memory.
  pub record IsRecordedRun (last : Memory) : Type 0 where
    pub schedule : List Mark
    pub makes : MakesLog schedule
    pub agrees : (m : ℕ) → m ≤ length r.ends → LineAgrees r (state_along schedule) last_places m
    pub memory : (state_along schedule).shared.memory ≡ last

  -- The entry at k is the first that doesn't fit.
  abbrev pub IsFirstMisfit : ℕ → Type 0
  IsFirstMisfit k = logs.IsFirstMisfit (system_of b) (try_rules false (Some r.limit)) (state_for r.threads b)
      first_places (as_acts r.log) k

  -- The log can be made, and of the end lines and the pages line that at k is the first that doesn't agree: with some
  -- run all before it do, and with none it does.
  pub record IsFirstWrongEnd (k : ℕ) : Type 0 where
    pub below : k ≤ length r.ends
    pub schedule : List Mark
    pub makes : MakesLog schedule
    pub before : (m : ℕ) → m < k → LineAgrees r (state_along schedule) last_places m
    pub none : (S : List Mark) → MakesLog S → LineAgrees r (state_along S) last_places k → ⊥
