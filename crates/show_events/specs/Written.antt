-- A trace and a page.
use Rattle.std.specs.Prelude.{ℕ, List, ◌++◌, length, codes, Option}
use Rattle.std.specs.Io.KnownBytes.{Appends}
use Rattle.race_history.specs.declared.race.Race.{Race}
use Rattle.selection.specs.declared.choice.Look.{Look}
use Rattle.show_rows.specs.declared.listing.Shown.{Shown}
use Rattle.show_rows.specs.Listing.{chosen}
use Rattle.show_events.specs.Around.{around, failure}
use Rattle.show_events.specs.Events.{AddsEvents}
use Rattle.show_events.specs.Page.{events_tag, run_tag}
use Rattle.show_events.specs.Run.{AddsRun}
use Rattle.show_events.specs.declared.run.MomentText.{MomentText}

-- A trace is the events of the entries that are chosen, between these.
pub record WritesTrace (shown : Shown) (races : List Race) (look : Look) (old new : Option (List ℕ)) : Type 0 where
  pub from : Option (List ℕ)
  pub begins : Appends old from (codes "{\"displayTimeUnit\":\"ns\",\"traceEvents\":\n")
  pub to : Option (List ℕ)
  pub events : AddsEvents shown races (chosen shown look) from to
  pub ends : Appends to new (codes "}\n")

-- A page has two elements of data, between a front and a back: of its run, with these moments; and the events of the
-- entries that are chosen, of many those around the failure.
pub record WritesPage (shown : Shown) (races : List Race) (moments : List MomentText) (look : Look)
    (old new : Option (List ℕ)) : Type 0 where
  pub front : List ℕ
  pub begun : Option (List ℕ)
  pub begins : Appends old begun (front ++ run_tag)
  pub told : Option (List ℕ)
  pub tells : AddsRun shown.record.now (length (chosen shown look)) moments begun told
  pub from : Option (List ℕ)
  pub goes_on : Appends told from events_tag
  pub to : Option (List ℕ)
  pub events : AddsEvents shown races (around (failure shown.record.now) (chosen shown look)) from to
  pub back : List ℕ
  pub ends : Appends to new (codes "</script>" ++ back)
