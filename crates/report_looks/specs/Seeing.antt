-- A run as it is shown, and the stacks that are told of it.
use Rattle.std.specs.Prelude.{ℕ, ◌≡◌, List, Option}
use Rattle.types.specs.declared.parts.Parts.{Parts}
use Rattle.replay_text.specs.declared.parts.RecordParts.{RecordParts}
use Rattle.spawn_host.specs.declared.end.EndState.{EndState}
use Rattle.replay.specs.Runs.{IsRunOf}
use Rattle.show_rows.specs.declared.rows.Row.{Row}
use Rattle.show_rows.specs.Listing.{IsStoryOf}
use Rattle.show_rows.specs.declared.listing.Shown.{Shown}
use Rattle.show_rows.specs.declared.listing.Story.{Story}
use Rattle.show_races.specs.declared.found.RecordRaces.{RecordRaces}
use Rattle.show_stacks.specs.Seen.{AreStacksOf}
use Rattle.show_stacks.specs.declared.stacks.EntryStacks.{EntryStacks}
use Rattle.show_race_words.specs.Stacks.{AreStackPlaces}

-- The record of a run of the module as it is shown, with its rows.
pub record IsShownOf (m : Parts) (r : RecordParts) (rows : List (Option Row)) (shown : Shown) (story : Story) : Type 0 where
  pub of_record : shown.record.now ≡ r
  pub of_rows : shown.rows.now ≡ rows
  pub of_module : shown.code.now.parts.now ≡ m
  pub is_story : IsStoryOf shown.record.now.log story

-- These are the stacks of a run's record that are told with its races.
pub record AreStacksTold (m : Parts) (r : RecordParts) (shown : Shown) (races : RecordRaces) (stacks : EntryStacks) : Type 0 where
  pub places : List ℕ
  pub places_are : AreStackPlaces shown races.pairs.items places
  pub seen : (end : EndState) × IsRunOf m r end × AreStacksOf m r end places stacks
