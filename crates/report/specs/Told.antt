-- What is told and kept of a search, in the form that is asked for.
use Rattle.std.specs.Prelude.{ℕ, ◌≡◌, ◌<◌, ◌+◌, ◌⊎◌, Bool, true, false, List, ◌++◌, Option, Some, None, is_some}
use Rattle.std.specs.Io.KnownBytes.{Appends}
use Rattle.allowed_races.specs.declared.allowed.Allowed.{Allowed}
use Rattle.types.specs.declared.parts.Parts.{Parts}
use Rattle.spawn_host.specs.Requests.{Requested}
use Rattle.search_scheduled.specs.declared.running.MadeRun.{MadeRun}
use Rattle.search_finds.specs.Drawing.{IsRunOfNumber}
use Rattle.search_finds.specs.Finds.{EndsAsLookedFor, HasNoneLookedFor}
use Rattle.search_finds.specs.declared.finding.Halt.{Halt}
use Rattle.search_finds.specs.declared.finding.Halt.TheVariants as halts
use Rattle.search_finds.specs.Noted.{AreNoted, AreNotedBy}
use Rattle.search_finds.specs.declared.met.EndingTable.{EndingTable}
use Rattle.selection.specs.declared.sought.Sought.{Sought}
use Rattle.report_command.specs.declared.search.Search.{Search}
use Rattle.report_command.specs.declared.form.Form.{Form}
use Rattle.report_command.specs.declared.form.Form.TheVariants.{Lines, Json}
use Rattle.report_jobs.specs.Asked.{IsAskedBy}
use Rattle.report_jobs.specs.Prints.{WriterChange, change, KeepsRecord}
use Rattle.report_json.specs.declared.found.FoundAs.TheVariants as founds
use Rattle.report_json.specs.declared.raced.RunRaces.{RunRaces}
use Rattle.report_json.specs.declared.raced.RunRaces.TheVariants as said
use Rattle.report_lines.specs.Found.{found_run_line}
use Rattle.report_looks.specs.Raced.{SaysFound}
use Rattle.report_telling.specs.Complete.{complete_lines}
use Rattle.report_telling.specs.Drawn.{behind_text}
use Rattle.report_telling.specs.NoneFound.{IsStatusOfTable, raceless_text}
use Rattle.report_telling.specs.Found.{found_lines, kept_lines, kept_text, run_lines, shrunk_text}
use Rattle.report_telling.specs.Racing.{SaysRaced}
use Rattle.report_telling.specs.declared.found.FoundRun.{FoundRun}
use Rattle.report_telling.specs.declared.found.KeptRun.{KeptRun}
use Rattle.report_telling.specs.declared.racing.KeptRace.{KeptRace}
use Rattle.report_telling.specs.SearchObjects.{WritesAll, WritesKept, WritesRacy}
use Rattle.report_telling.specs.Telling.{EndsNone, EndsNothing, head_lines}
use Rattle.report_telling.specs.declared.table.DrawnTable.{DrawnTable}
use Rattle.report_telling.specs.declared.telling.ToldSearch.{ToldSearch}
use Rattle.report_finds.specs.DrawnRaces.{HasRacy, SaysRaceOf}
use Rattle.report_finds.specs.Found.{AreKeptOf, HasFound, IsKeptOf, KeepsFound, KeepsMade}
use Rattle.report_finds.specs.Sought.{IsStatusOf}
use Rattle.report_finds.specs.Racing.{IsRacedOf, IsWhole, KeepsRaced}

-- The lines of a race, where one was found, those of what was found of all runs, and those of what is looked for and
-- found there; or the object of all of it.
pub record LinesOfAll (m : Parts) (t : ToldSearch) (found : Option FoundRun) (out : WriterChange) : Type 0 where
  pub race : List ℕ
  pub says : SaysRaced m t.raced.now race
  pub lines : Appends out.old out.new (race ++ (complete_lines t.most t.whole.now.racing t.whole.now.all
      ++ (found_lines found ++ kept_lines t.dump t.kept.now)))

abbrev pub AllIn : Form → Parts → ToldSearch → Option FoundRun → WriterChange → Type 0
AllIn Lines m t found out = LinesOfAll m t found out
AllIn Json m t found out = WritesAll m t out

-- What is told is what was found of all runs of the module by the call that was asked for: the endings, what is known
-- of races, with a run that has one, and the first ending that is looked for, or a run that never ends; and the records
-- that were written, where they are wanted, are those of these runs.
pub record TellsAll (m : Parts) (s : Search) (a : Allowed) (most : ℕ) (out save : WriterChange)
    (status : ℕ) : Type 0 where
  pub request : Requested
  pub parts_are : request.parts ≡ m
  pub asked : IsAskedBy s.call request
  pub told : ToldSearch
  pub most_is : told.most ≡ most
  pub status_told : told.status ≡ status
  pub dump_is : told.dump ≡ s.sought.dump
  pub is_whole : IsWhole request s a told.whole.now
  pub is_raced : IsRacedOf request s a told.whole.now.racing told.raced.now
  pub found : Option FoundRun
  pub has : HasFound request s told.whole.now found
  pub is_kept : AreKeptOf request s found told.kept.now
  pub between : Option (List ℕ)
  pub keeps_race : KeepsRaced s told.raced.now (change save.old between)
  pub keeps_found : KeepsFound s told.kept.now (change between save.new)
  pub tells : AllIn s.form request.parts told found out
  pub status_is : IsStatusOf s told.whole.now status

-- The lines of a table, and of its last run, which was found; or the object of both.
abbrev pub LastIn : Form → Search → EndingTable → ℕ → KeptRun → WriterChange → Type 0
LastIn Lines s table run k out =
    Appends out.old out.new (head_lines s.sought table ++ (found_run_line run ++ kept_text s.sought.dump k))
LastIn Json s table run k out = WritesKept s.sought table k out

-- The last run that was made was found; and the record that was written, where one is wanted, is that of what is kept
-- of it.
pub record TellsLast (q : Requested) (s : Search) (table : EndingTable) (out save : WriterChange) : Type 0 where
  pub run : ℕ
  pub is_last : run + 1 ≡ s.sought.from + table.runs
  pub found : MadeRun
  pub drawn : IsRunOfNumber q s.sought run found
  pub sought : EndsAsLookedFor s.sought s.sought.dump found.end
  pub k : KeptRun
  pub is_kept : IsKeptOf q s (record { found_as = founds.Run run; made = Some found }) k
  pub tells : LastIn s.form s table run k out
  pub kept : KeepsMade s k.made save

-- The lines of a table, and these behind it; or the object of the table, with what is known of races.
abbrev pub NoneIn : Form → Sought → EndingTable → Bool → Option RunRaces → List ℕ → ℕ → WriterChange → Type 0
NoneIn Lines s table is_told races text status out = Appends out.old out.new (head_lines s table ++ text)
NoneIn Json s table is_told races text status out = EndsNone Json s table is_told races text status out

-- None was found: all were made, and none is looked for, where the search stops at such a one; or it was told to end.
pub record TellsNone (s : Search) (table : EndingTable) (out save : WriterChange) (status : ℕ) : Type 0 where
  pub is_told : Bool
  pub all_made : is_told ≡ false → table.runs ≡ s.sought.runs
  pub none : is_told ≡ false → s.sought.stops ≡ true → HasNoneLookedFor s.sought table
  pub tells : NoneIn s.form s.sought table is_told None (behind_text is_told s.sought table) status out
  pub status_is : IsStatusOfTable s.sought table status
  pub kept : save.new ≡ save.old

-- What is told is a table of runs of the module by the call that was asked for, each of which was noted in it; and the
-- one that was found, or that none was.
pub record TellsDrawn (m : Parts) (s : Search) (out save : WriterChange) (status : ℕ) : Type 0 where
  pub request : Requested
  pub parts_are : request.parts ≡ m
  pub asked : IsAskedBy s.call request
  pub table : EndingTable
  pub noted : AreNoted request s.sought table
  pub says : ((status ≡ 1) × TellsLast request s table out save) ⊎ TellsNone s table out save status

-- The lines of a table, and of its last run, which has a race; or the object of both.
pub record LinesOfRacy (m : Parts) (s : Search) (table : EndingTable) (run : ℕ) (k : KeptRace)
    (out : WriterChange) : Type 0 where
  pub pair : List ℕ
  pub says : SaysFound k.racy.race.allowed m k.racy.made.record pair
  pub lines : Appends out.old out.new (head_lines s.sought table ++ (found_run_line run
      ++ (shrunk_text k.shrunk ++ (pair ++ run_lines s.sought.dump k.racy.made))))

abbrev pub RacyIn : Form → Parts → Search → EndingTable → ℕ → KeptRace → WriterChange → Type 0
RacyIn Lines m s table run k out = LinesOfRacy m s table run k out
RacyIn Json m s table run k out = WritesRacy m s.sought table k out

-- The last run that was made has a race, and none before it; and the record that was written, where one is wanted, is
-- that of the run that is told.
pub record TellsRacyLast (q : Requested) (s : Search) (a : Allowed) (table : EndingTable)
    (out save : WriterChange) : Type 0 where
  pub run : ℕ
  pub is_last : run + 1 ≡ s.sought.from + table.runs
  pub found : MadeRun
  pub drawn : IsRunOfNumber q s.sought run found
  pub races : SaysRaceOf q a found true
  pub first : AreNotedBy (λ before made. before < run → SaysRaceOf q a made false) q s.sought table
  pub k : KeptRace
  pub has : HasRacy q s a run found k
  pub tells : RacyIn s.form q.parts s table run k out
  pub kept : KeepsRecord (is_some s.save) save k.racy.made.record

-- Of those that were made none has a race, where the search stops at such a one. All were made, or it was told to end.
pub record TellsNoRace (q : Requested) (s : Search) (a : Allowed) (table : EndingTable) (out save : WriterChange)
    (status : ℕ) : Type 0 where
  pub is_told : Bool
  pub all_made : is_told ≡ false → table.runs ≡ s.sought.runs
  pub none : s.sought.stops ≡ true → AreNotedBy (λ run made. SaysRaceOf q a made false) q s.sought table
  pub tells : NoneIn s.form s.sought table is_told (Some said.Unknown) (raceless_text is_told s.sought table) status out
  pub status_is : IsStatusOfTable s.sought table status
  pub kept : save.new ≡ save.old

-- Such a table of a search that looks for a run with a race; and the one that has one, or that none has.
pub record TellsDrawnRaces (m : Parts) (s : Search) (a : Allowed) (out save : WriterChange) (status : ℕ) : Type 0 where
  pub request : Requested
  pub parts_are : request.parts ≡ m
  pub asked : IsAskedBy s.call request
  pub table : EndingTable
  pub noted : AreNoted request s.sought table
  pub says : ((status ≡ 1) × TellsRacyLast request s a table out save) ⊎ TellsNoRace request s a table out save status

-- The search was told to end.
abbrev pub was_told : Halt → Bool
was_told (halts.Found f) = false
was_told halts.AllMade = false
was_told halts.Told = true

-- None was found, by how the search ended.
abbrev pub TellsNoneFound : Form → DrawnTable → Option RunRaces → Halt → ℕ → WriterChange → Type 0
TellsNoneFound form drawn races halt status out = EndsNothing form drawn races (was_told halt) status out
