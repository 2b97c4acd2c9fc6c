-- What runs of a module return, beside what a search through its threads finds.
use Rattle.std.specs.Prelude.{ℕ, ◌≡◌, ◌≢◌, Bool, List, Option, Some}
use Rattle.std.specs.List.{slice_get}
use Rattle.types.specs.declared.value.Value.{Value}
use Rattle.types.specs.declared.event.Entry.{Entry}
use Rattle.types.specs.declared.parts.Parts.{Parts}
use Rattle.types.specs.declared.outcome.Outcome.TheVariants as outcomes
use Rattle.types.specs.declared.outcome.Stop.TheVariants as stops
use Rattle.types.specs.declared.outcome.ThreadReport.{ThreadReport}
use Rattle.validate_typing.specs.Validity.{HasDistinctNames}
use Rattle.schedule.specs.System as systems
use Rattle.schedule_threads.specs.Shared.{Shared}
use Rattle.spawn_host.specs.Runs.{Beginning, start_by}
use Rattle.spawn_host.specs.declared.end.EndState.{EndState}
use Rattle.spawn_host.specs.RunEnds.{EndsRun}
use Rattle.search_runs.specs.Called.{Called, Walker, with_fuel}
use Rattle.search_endings.specs.Endings.{reported_ending}
use Rattle.search_runs.specs.Ends.{HasEndedSo}
use Rattle.search_runs.specs.Theorems.{CanReach}

-- This is what a run of the module calls that calls a function by its name, with these arguments.
pub record IsCall (m : Parts) (entry : List ℕ) (args : List Value) (b : Called) : Type 0 where
  pub beginning : Beginning m entry args
  pub same : (fuel : ℕ) → start_by m entry args fuel beginning ≡ with_fuel b fuel

-- A thread stopped neither for want of units nor for a full log.
pub record HadEnough (report : ThreadReport) : Type 0 where
  pub has_units : report.outcome ≢ outcomes.Stop stops.OutOfFuel
  pub has_room : report.outcome ≢ outcomes.Stop stops.RecordFull

abbrev pub AllHadEnough : EndState → Type 0
AllHadEnough end = (n : ℕ) (report : ThreadReport) → slice_get end.threads.items n ≡ Some report → HadEnough report

-- Whatever a run of a module whose exports have distinct names (as those of a valid one have) returns, over a memory
-- that loses tries or not, with a log or without one, and whatever its budget: where all its threads had units and room
-- enough, threads without budgets come to an end that is the same.
abbrev pub WhatRunsReturnIsReached : Type 0
WhatRunsReturnIsReached =
    (m : Parts) → HasDistinctNames m.exports → (entry : List ℕ) (args : List Value) (b : Called) → IsCall m entry args b
    → (fuel : ℕ) (loses : Bool) (limit : Option ℕ) (history : List Entry) (end : EndState)
    → EndsRun m entry args fuel loses limit history end → AllHadEnough end
    → (dump : ℕ) → (w : systems.State Shared Walker) × CanReach b w
    × HasEndedSo dump w (reported_ending dump end.threads.items end.pages end.bytes.items)
