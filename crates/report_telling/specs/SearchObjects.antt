-- What the object of a search has: what was found, and the runs of a table or of every order.
use Rattle.std.specs.Prelude.{ℕ, ◌≡◌, [], Bool, true, false, Option, Some, None}
use Rattle.std.specs.List.{AllZip}
use Rattle.std.specs.Io.KnownBytes.{Appends}
use Rattle.search_race_free.specs.declared.race.ThreadRace.{ThreadRace}
use Rattle.types.specs.declared.parts.Parts.{Parts}
use Rattle.search_scheduled.specs.declared.running.MadeRun.{MadeRun}
use Rattle.search_finds.specs.declared.met.Met.{Met}
use Rattle.search_finds.specs.declared.met.EndingTable.{EndingTable}
use Rattle.selection.specs.Ways.{way_of}
use Rattle.selection.specs.declared.sought.Sought.{Sought}
use Rattle.report_jobs.specs.Prints.{WriterChange, IsObjectOf}
use Rattle.show_json.specs.Json.{json_line}
use Rattle.report_json.specs.Drawn.{drawn_json}
use Rattle.report_json.specs.Complete.{complete_json}
use Rattle.report_json.specs.declared.complete.CompleteObject.{CompleteObject}
use Rattle.report_json.specs.declared.drawn.Coverage.{Coverage}
use Rattle.report_json.specs.declared.drawn.DrawnObject.{DrawnObject}
use Rattle.report_json.specs.declared.drawn.DrawnEnd.{DrawnEnd}
use Rattle.report_json.specs.declared.drawn.DrawnEnd.TheVariants as ends
use Rattle.report_json.specs.declared.drawn.DrawnRuns.{DrawnRuns}
use Rattle.report_json.specs.declared.drawn.MetEnding.{MetEnding}
use Rattle.report_json.specs.declared.ends.RunEndObject.{RunEndObject}
use Rattle.report_json.specs.declared.found.FoundObject.{FoundObject}
use Rattle.report_json.specs.declared.found.FoundAs.TheVariants as founds
use Rattle.show_json.specs.declared.races.RacePair.{RacePair}
use Rattle.report_json.specs.declared.raced.RacingThreads.{RacingThreads}
use Rattle.report_json.specs.declared.raced.RunRaces.{RunRaces}
use Rattle.report_json.specs.declared.raced.RunRaces.TheVariants as said
use Rattle.report_looks.specs.Raced.{SaysObject}
use Rattle.report_telling.specs.Drawn.{coverage_of, cut_in}
use Rattle.report_telling.specs.declared.found.KeptRun.{KeptRun}
use Rattle.report_telling.specs.declared.racing.KeptRace.{KeptRace}
use Rattle.report_telling.specs.declared.racing.Raced.{Raced}
use Rattle.report_telling.specs.declared.racing.Raced.TheVariants as raced
use Rattle.report_telling.specs.declared.racing.Racing.{Racing}
use Rattle.report_telling.specs.declared.racing.Racing.TheVariants.{Unasked, Never, OnlyBehindTimeouts, Unknown}
use Rattle.report_telling.specs.declared.racing.Racing.TheVariants as racings
use Rattle.report_telling.specs.declared.table.DrawnTable.{DrawnTable}
use Rattle.report_telling.specs.declared.table.NoneFound.{NoneFound}
use Rattle.report_telling.specs.declared.telling.ToldSearch.{ToldSearch}

-- How a run ended that was made; and what is kept of what was found, in an object.
abbrev pub IsEndIn : ℕ → Option MadeRun → Option RunEndObject → Type 0
IsEndIn dump None None = Unit {0}
IsEndIn dump (Some made) (Some run) = IsObjectOf made.end dump [] run
IsEndIn dump made run = ⊥

pub record IsKeptIn (dump : ℕ) (k : KeptRun) (found : FoundObject) : Type 0 where
  pub as_is : found.found_as ≡ k.found_as
  pub shrunk_is : found.shrunk ≡ k.shrunk
  pub end_is : IsEndIn dump k.made found.run

abbrev pub AreKeptIn : ℕ → Option KeptRun → Option FoundObject → Type 0
AreKeptIn dump None None = Unit {0}
AreKeptIn dump (Some k) (Some found) = IsKeptIn dump k found
AreKeptIn dump k found = ⊥

abbrev pub threads_of : ThreadRace → RacingThreads
threads_of r = record { one = r.one; other = r.other }

-- The object of what is told of every order, and of what is known of races: what was found of all runs, and what is
-- kept.
pub record WritesTold (t : ToldSearch) (is : Option RunRaces) (out : WriterChange) : Type 0 where
  pub complete : CompleteObject
  pub status_is : complete.status ≡ t.status
  pub most_is : complete.most ≡ t.most
  pub all_is : complete.all.now ≡ t.whole.now.all
  pub races_are : complete.races ≡ is
  pub found_is : AreKeptIn t.dump t.kept.now complete.found
  pub object : Appends out.old out.new (json_line (complete_json complete))

-- What is known of races, where no run with one was made.
abbrev pub races_alone : Racing → Option RunRaces
races_alone Unasked = None
races_alone Never = Some said.Never
races_alone OnlyBehindTimeouts = Some said.OnlyBehindTimeouts
races_alone (racings.Found r) = Some (said.Between (threads_of r))
races_alone Unknown = Some said.Unknown

-- The object has a race of the run that was made; or the threads alone; or what is known.
abbrev pub WritesWith : Parts → Raced → ToldSearch → WriterChange → Type 0
WritesWith m (raced.Run run kept) t out =
    (pair : RacePair) × SaysObject run.race.allowed m run.made.record pair × WritesTold t (Some (said.Found pair)) out
WritesWith m (raced.Threads r) t out = WritesTold t (Some (said.Between (threads_of r))) out
WritesWith m raced.Untold t out = WritesTold t (races_alone t.whole.now.racing) out

abbrev pub WritesAll : Parts → ToldSearch → WriterChange → Type 0
WritesAll m t out = WritesWith m t.raced.now t out

-- The table of drawn runs in an object: its endings, how many runs were made, and how many of them were cut.
pub record IsMetOf (s : Sought) (met : Met) (ending : MetEnding) : Type 0 where
  pub times : ending.times ≡ met.times
  pub first : ending.first ≡ met.first
  pub way : ending.way ≡ way_of s.way met.first
  pub ending_is : ending.ending.now ≡ met.ending

pub record AreRunsOf (s : Sought) (table : EndingTable) (runs : DrawnRuns) : Type 0 where
  pub made : runs.made ≡ table.runs
  pub asked : runs.asked ≡ s.runs
  pub cut : runs.cut ≡ cut_in table
  pub limit : runs.limit ≡ s.limit

pub record WritesTable (s : Sought) (table : EndingTable) (status : ℕ) (races : Option RunRaces) (halt : DrawnEnd)
    (out : WriterChange) : Type 0 where
  pub drawn : DrawnObject
  pub met : AllZip (IsMetOf s) table.met.items drawn.met.now
  pub runs : AreRunsOf s table drawn.runs
  pub status_is : drawn.status ≡ status
  pub races_are : drawn.races ≡ races
  pub halt_is : drawn.halt ≡ halt
  pub object : Appends out.old out.new (json_line (drawn_json drawn))

-- What is kept of the last run, and that was written; or that none was found, and what is unseen.
abbrev pub WritesKept : Sought → EndingTable → KeptRun → WriterChange → Type 0
WritesKept s table k out = (found : FoundObject) × IsKeptIn s.dump k found
    × WritesTable s table 1 None (ends.Found found) out

abbrev pub none_of : Bool → Coverage → DrawnEnd
none_of true coverage = ends.Told coverage
none_of false coverage = ends.AllMade coverage

-- The last run in an object, and a race of it.
pub record IsRacyIn (dump : ℕ) (k : KeptRace) (found : FoundObject) : Type 0 where
  pub as_is : found.found_as ≡ founds.Run k.run
  pub shrunk_is : found.shrunk ≡ k.shrunk
  pub end_is : IsEndIn dump (Some k.racy.made) found.run

abbrev pub WritesRacyTable : Sought → EndingTable → KeptRace → RacePair → WriterChange → Type 0
WritesRacyTable s table k pair out =
    (found : FoundObject) × IsRacyIn s.dump k found
    × WritesTable s table 1 (Some (said.Found pair)) (ends.Found found) out

abbrev pub WritesRacy : Parts → Sought → EndingTable → KeptRace → WriterChange → Type 0
WritesRacy m s table k out =
    (pair : RacePair) × SaysObject k.racy.race.allowed m k.racy.made.record pair × WritesRacyTable s table k pair out

-- The table of drawn runs of which none was found.
abbrev pub WritesNone : DrawnTable → NoneFound → WriterChange → Type 0
WritesNone drawn none out = WritesTable drawn.sought.now drawn.table.now none.status none.races
    (none_of none.is_told (coverage_of drawn.sought.now drawn.table.now)) out
