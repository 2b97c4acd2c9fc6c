-- The races that a run has, with what they are told by.
use Rattle.std.specs.Prelude.{ℕ, ◌≡◌, ◌≤◌, ◌<◌, ◌⊎◌, All, [], true, false, length}
use Rattle.types.specs.declared.parts.Parts.{Parts}
use Rattle.replay_text.specs.declared.parts.RecordParts.{RecordParts}
use Rattle.spawn_host.specs.declared.end.EndState.{EndState}
use Rattle.replay.specs.Runs.{IsRunOf}
use Rattle.race_history.specs.Races.{AreRaces}
use Rattle.show_rows.specs.Listing.{IsStoryOf}
use Rattle.show_rows.specs.declared.listing.Shown.{Shown}
use Rattle.show_races.specs.Sites.{opening_of, opening_shown, sites_shown}
use Rattle.show_races.specs.Told.{AreApart, AreMany, HasNoRace, IsMore, IsWithin, TellsEach}
use Rattle.show_races.specs.Rows.{AreRowsOf, sites_of}
use Rattle.allowed_races.specs.declared.allowed.Allowed.{Allowed}
use Rattle.report_looks.specs.Seeing.{AreStacksTold, IsShownOf}
use Rattle.report_looks.specs.declared.sighting.RacesOfRun.{RacesOfRun}
use Rattle.report_looks.specs.declared.sighting.ToldRaces.{ToldRaces}
use Rattle.report_looks.specs.declared.sighting.TheConstants.{MOST_TOLD}

-- These are races of a run as it is shown, where so much may race, so many at most, no two of the same two places of the code: each one, where it
-- isn't said that they are cut, and else there are more.
pub record AreTold (allowed : Allowed) (shown : Shown) (most : ℕ) (told : ToldRaces) : Type 0 where
  pub is_story : IsStoryOf shown.record.now.log told.story
  pub sites : told.races.sites.items ≡ sites_shown allowed shown
  pub races : AreRaces shown.record.now.log (sites_shown allowed shown) (opening_shown shown) told.races.pairs.items
  pub each : told.races.is_cut ≡ false → TellsEach allowed shown told.story told.races.pairs.items
  pub once : AreApart shown told.story told.races.pairs.items
  pub cut : told.races.is_cut ≡ true → IsMore allowed shown told.story told.races.pairs.items most ⊎ AreMany allowed shown
  pub none : told.races.pairs.items ≡ [] → HasNoRace shown.record.now.log (sites_shown allowed shown) (opening_shown shown)
  pub few : length told.races.pairs.items ≤ most
  pub within : All (IsWithin shown.record.now.log) told.races.pairs.items

-- There is a race to tell, and each is of two entries of the record.
pub record CanBeTold (r : RecordParts) (f : RacesOfRun) : Type 0 where
  pub some : 0 < length f.told.races.pairs.items
  pub within : All (IsWithin r.log) f.told.races.pairs.items

-- The record is shown by these rows and this code.
pub record IsShownBy (r : RecordParts) (f : RacesOfRun) (shown : Shown) : Type 0 where
  pub of_record : shown.record.now ≡ r
  pub of_rows : shown.rows.now ≡ f.rows.items
  pub of_code : shown.code.now ≡ f.code

-- The record is of a run of the module, and these are its rows, its code, and the races of it that are told, with the stacks.
pub record AreRacesOf (m : Parts) (r : RecordParts) (f : RacesOfRun) : Type 0 where
  pub seen : (end : EndState) × IsRunOf m r end × AreRowsOf m r end f.rows.items
  pub of_module : f.code.parts.now ≡ m
  pub is_story : IsStoryOf r.log f.told.story
  pub sites : f.told.races.sites.items ≡ sites_of f.allowed m r f.rows.items
  pub races : AreRaces r.log (sites_of f.allowed m r f.rows.items) (opening_of m) f.told.races.pairs.items
  pub told : CanBeTold r f
  pub found : Shown
  pub is_found : IsShownOf m r f.rows.items found f.told.story
  pub all : AreTold f.allowed found MOST_TOLD f.told
  pub stacks : AreStacksTold m r found f.told.races f.stacks
