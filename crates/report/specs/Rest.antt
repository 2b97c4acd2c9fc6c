-- What is told of all runs behind a race of one, and what is kept.
use Rattle.std.specs.Prelude.{ℕ, ◌≡◌, List, ◌++◌, Option}
use Rattle.std.specs.Option.{IfSome}
use Rattle.std.specs.Io.KnownBytes.{Appends}
use Rattle.types.specs.declared.parts.Parts.{Parts}
use Rattle.spawn_host.specs.Requests.{Requested}
use Rattle.report_command.specs.declared.form.Form.{Form}
use Rattle.report_command.specs.declared.form.Form.TheVariants.{Lines, Json}
use Rattle.report_command.specs.declared.search.Search.{Search}
use Rattle.report_jobs.specs.Prints.{WriterChange, changed}
use Rattle.report_jobs.specs.declared.streams.Streams.{Streams}
use Rattle.report_telling.specs.Complete.{complete_lines}
use Rattle.report_telling.specs.Found.{found_lines, kept_lines}
use Rattle.report_telling.specs.Racing.{IsRacedIn}
use Rattle.report_telling.specs.SearchObjects.{WritesAll}
use Rattle.report_telling.specs.declared.found.FoundRun.{FoundRun}
use Rattle.report_telling.specs.declared.telling.ToldSearch.{ToldSearch}
use Rattle.report_finds.specs.Found.{AreKeptOf, HasFound, KeepsFound}
use Rattle.report_finds.specs.Sought.{IsStatusOf}
use Rattle.report.specs.declared.searching.OrdersMet.{OrdersMet}

-- The lines of what was found of all runs, and those of what is looked for; or the object of all that is told.
abbrev pub RestIn : Form → Parts → ToldSearch → Option FoundRun → WriterChange → Type 0
RestIn Lines m t found out = Appends out.old out.new (complete_lines t.most t.whole.now.racing t.whole.now.all
    ++ (found_lines found ++ kept_lines t.dump t.kept.now))
RestIn Json m t found out = WritesAll m t out

-- What is told is what was met, the first ending that is looked for or a run that never ends, and the status; and the
-- record that was written, where one is wanted, is that of what was found.
pub record TellsRest (form : Form) (q : Requested) (s : Search) (met : OrdersMet) (out save : WriterChange)
    (status : ℕ) : Type 0 where
  pub told : ToldSearch
  pub whole_is : told.whole.now ≡ met.whole
  pub raced_is : told.raced.now ≡ met.raced
  pub most_is : told.most ≡ met.most
  pub status_told : told.status ≡ status
  pub dump_is : told.dump ≡ s.sought.dump
  pub found : Option FoundRun
  pub has : HasFound q s told.whole.now found
  pub one : IfSome found (λ _. status ≡ 1)
  pub is_kept : AreKeptOf q s found told.kept.now
  pub keeps_found : KeepsFound s told.kept.now save
  pub tells : (m : Parts) → IsRacedIn m told.raced.now → RestIn form m told found out
  pub status_is : IsStatusOf s told.whole.now status

-- The same of what streams have before and after.
abbrev pub TellsRestOn : {W E S : Type 0} → Form → (W → Option (List ℕ)) → (S → Option (List ℕ)) → Requested → Search
    → OrdersMet → Streams W E S → Streams W E S → ℕ → Type 0
TellsRestOn form out save q s met old new status =
    TellsRest form q s met (changed out old.out new.out) (changed save old.save new.save) status
