-- What is said of the races of a record's run.
use Rattle.std.specs.Prelude.{ℕ, ◌≡◌, ◌≤◌, ◌<◌, ◌⊎◌, ◌++◌, Bool, true, false, List, length, Option}
use Rattle.std.specs.List.{AllZip, concat}
use Rattle.std.specs.Io.KnownBytes.{Appends}
use Rattle.types.specs.declared.parts.Parts.{Parts}
use Rattle.validate_typing.specs.Validity.{IsValid}
use Rattle.binary.specs.Grammar.{IsModuleText}
use Rattle.replay_text.specs.declared.parts.RecordParts.{RecordParts}
use Rattle.replay_text.specs.Text.{IsRecord, record_text}
use Rattle.spawn_host.specs.declared.end.EndState.{EndState}
use Rattle.replay.specs.Runs.{IsRunOf}
use Rattle.race_history.specs.declared.access.Site.{Site}
use Rattle.race_history.specs.declared.race.Race.{Race}
use Rattle.race_history.specs.Races.{AreRaces, IsLastRace}
use Rattle.show_rows.specs.declared.rows.Row.{Row}
use Rattle.show_rows.specs.Listing.{IsStoryOf}
use Rattle.show_rows.specs.declared.listing.Shown.{Shown}
use Rattle.show_rows.specs.declared.listing.Story.{Story}
use Rattle.show_races.specs.Rows.{AreRowsOf, sites_of}
use Rattle.show_races.specs.Sites.{opening_of}
use Rattle.show_races.specs.Told.{AreApart, AreMany, HasNoRace, IsMore, TellsEach}
use Rattle.show_named.specs.declared.data_map.DataMap.{DataMap}
use Rattle.show_race_words.specs.Written.{SaysRace, TellsRaces, more_text}
use Rattle.show_races.specs.declared.found.RecordRaces.{RecordRaces}
use Rattle.allowed_races.specs.declared.allowed.Allowed.{Allowed}
use Rattle.show_stacks.specs.declared.texts.StacksView.{StacksView}
use Rattle.report_command.specs.declared.allowance.Allowance.{Allowance}
use Rattle.report_command.specs.declared.form.Form.{Form}
use Rattle.report_command.specs.declared.form.Form.TheVariants.{Lines, Json}
use Rattle.report_jobs.specs.Prints.{WriterChange}
use Rattle.show_json.specs.declared.races.RacePair.{RacePair}
use Rattle.report_objects.specs.RaceObjects.{IsPairOf, WritesPairs}
use Rattle.report_looks.specs.Allowing.{IsAllowedBy}
use Rattle.report_looks.specs.Seeing.{AreStacksTold, IsShownOf}
use Rattle.report_looks.specs.Sighted.{AreTold}
use Rattle.report_looks.specs.declared.sighting.ToldRaces.{ToldRaces}
use Rattle.report_looks.specs.declared.sighting.TheConstants.{MOST_TOLD}

-- The text is that of this record, of a run of the module, and these are its rows.
pub record IsSeen (m : Parts) (saved : List ℕ) (r : RecordParts) (rows : List (Option Row)) : Type 0 where
  pub ranges : IsRecord r
  pub text : saved ≡ record_text r
  pub end : EndState
  pub run : IsRunOf m r end
  pub rows_are : AreRowsOf m r end rows

-- The text is that of a record of a run of the module, in which no two accesses race that may not;
pub record IsRaceFree (allow : Allowance) (m : Parts) (saved : List ℕ) : Type 0 where
  pub record_is : RecordParts
  pub rows : List (Option Row)
  pub seen : IsSeen m saved record_is rows
  pub allowed : Allowed
  pub allowed_is : IsAllowedBy allow allowed
  pub none : HasNoRace record_is.log (sites_of allowed m record_is rows) (opening_of m)

-- or in which two do.
pub record IsRacy (allow : Allowance) (m : Parts) (saved : List ℕ) : Type 0 where
  pub record_is : RecordParts
  pub rows : List (Option Row)
  pub seen : IsSeen m saved record_is rows
  pub allowed : Allowed
  pub allowed_is : IsAllowedBy allow allowed
  pub race : Race
  pub races : IsLastRace record_is.log (sites_of allowed m record_is rows) (opening_of m) race

-- They are told in lines, or in an object.
abbrev pub TellsIn : Form → Shown → DataMap → Story → RecordRaces → StacksView → Option (List ℕ) → Option (List ℕ) → Type 0
TellsIn Lines shown map story races stacks old new = TellsRaces shown map story stacks races old new
TellsIn Json shown map story races stacks old new = WritesPairs shown story races old new

-- What was written tells of so many races at most, each one of the run that may not be and by the instructions of its
-- entries, no two of the same two places of the code, and of each race of the run at its places, where it isn't said that they
-- are not all; and where that is said there are more.
pub record WritesRaces (allow : Allowance) (m : Parts) (r : RecordParts) (rows : List (Option Row)) (most : ℕ) (form : Form)
    (out : WriterChange) : Type 0 where
  pub allowed : Allowed
  pub allowed_is : IsAllowedBy allow allowed
  pub found : Shown
  pub told : ToldRaces
  pub is_found : IsShownOf m r rows found told.story
  pub told_is : AreTold allowed found most told
  pub shown : Shown
  pub is_shown : IsShownOf m r rows shown told.story
  pub map : DataMap
  pub stacks : StacksView
  pub stacks_are : AreStacksTold m r found told.races stacks.stacks.now
  pub tells : TellsIn form shown map told.story told.races stacks out.old out.new

-- What was written of the record's races, where so many are told at most.
pub record PrintsRaces (allow : Allowance) (most : ℕ) (form : Form) (out : WriterChange) (m : Parts) (saved : List ℕ) : Type 0 where
  pub record_is : RecordParts
  pub rows : List (Option Row)
  pub seen : IsSeen m saved record_is rows
  pub writes : WritesRaces allow m record_is rows most form out

-- Whether there are races, as an answer says.
abbrev pub SaysOf : Allowance → Parts → List ℕ → Bool → Type 0
SaysOf allow m saved true = IsRacy allow m saved
SaysOf allow m saved false = IsRaceFree allow m saved

-- The status by that answer.
abbrev pub status_by : Bool → ℕ
status_by true = 1
status_by false = 0

abbrev pub OfModule : (Parts → List ℕ → Type 0) → List ℕ → List ℕ → Type 0
OfModule Is bytes saved = (m : Parts) × IsModuleText bytes m × IsValid m × Is m saved

-- Two entries of a run's record race that may not, and this is said of them.
pub record HasPair (allowed : Allowed) (m : Parts) (r : RecordParts)
    (IsSaid : Shown → Story → List Site → Race → Type 0) : Type 0 where
  pub rows : List (Option Row)
  pub end : EndState
  pub run : IsRunOf m r end
  pub rows_are : AreRowsOf m r end rows
  pub shown : Shown
  pub story : Story
  pub is_shown : IsShownOf m r rows shown story
  pub race : Race
  pub is_race : IsLastRace r.log (sites_of allowed m r rows) (opening_of m) race
  pub says : IsSaid shown story (sites_of allowed m r rows) race

-- The text tells of races of a run in the words of `races`, with names of data: of each race at its two places in the code,
-- where it doesn't say that these are not all, no two of the same two places; and there is one. It shows the record in which
-- they were found.
pub record SaysFound (allowed : Allowed) (m : Parts) (r : RecordParts) (text : List ℕ) : Type 0 where
  pub rows : List (Option Row)
  pub end : EndState
  pub run : IsRunOf m r end
  pub rows_are : AreRowsOf m r end rows
  pub found : Shown
  pub story : Story
  pub is_found : IsShownOf m r rows found story
  pub races : RecordRaces
  pub told : AreTold allowed found MOST_TOLD (record { story = story; races = races })
  pub shown : Shown
  pub is_shown : IsShownOf m r rows shown story
  pub map : DataMap
  pub some : 0 < length races.pairs.items
  pub stacks : StacksView
  pub stacks_are : AreStacksTold m r found races stacks.stacks.now
  pub texts : List (List ℕ)
  pub says : AllZip (SaysRace shown map story stacks races.sites.items) races.pairs.items texts
  pub is : text ≡ concat texts ++ more_text races.is_cut (length races.pairs.items)

-- An object says so.
abbrev pub SaysObject : Allowed → Parts → RecordParts → RacePair → Type 0
SaysObject allowed m r pair = HasPair allowed m r (λ shown story sites race. IsPairOf shown story sites race pair)

-- They were written.
abbrev pub WritesFound : Allowed → Parts → RecordParts → WriterChange → Type 0
WritesFound allowed m r out = (text : List ℕ) × Appends out.old out.new text × SaysFound allowed m r text
