-- What is said of the races of recorded runs.
use Rattle.std.specs.Prelude.{ℕ, Bool, true, false, List, Option}
use Rattle.allowed_races.specs.declared.allowed.Allowed.{Allowed}
use Rattle.types.specs.declared.parts.Parts.{Parts}
use Rattle.types.specs.declared.event.Entry.{Entry}
use Rattle.replay_text.specs.declared.parts.RecordParts.{RecordParts}
use Rattle.spawn_host.specs.declared.end.EndState.{EndState}
use Rattle.replay.specs.Runs.{IsRunOf}
use Rattle.race_history.specs.declared.access.Site.{Site}
use Rattle.race_history.specs.declared.race.Race.{Race}
use Rattle.race_history.specs.Races.{IsLastRace}
use Rattle.show_rows.specs.declared.rows.Row.{Row}
use Rattle.show_races.specs.Told.{HasNoRace}
use Rattle.show_races.specs.Rows.{AreRowsOf, sites_of}
use Rattle.show_races.specs.Sites.{opening_of}

-- Whether there are races, as an answer says.
abbrev pub Says : List Entry → List Site → ℕ → Bool → Type 0
Says log sites opening true = (r : Race) × IsLastRace log sites opening r
Says log sites opening false = HasNoRace log sites opening

-- The record is of a run of the module; where its threads stand says by which instruction each entry was made;
-- and so two accesses race that may not, or none do.
pub record SaysOfRun (allowed : Allowed) (m : Parts) (r : RecordParts) (is : Bool) : Type 0 where
  pub rows : List (Option Row)
  pub end : EndState
  pub run : IsRunOf m r end
  pub rows_are : AreRowsOf m r end rows
  pub says : Says r.log (sites_of allowed m r rows) (opening_of m) is
