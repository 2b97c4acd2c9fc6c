-- The jobs of the command line.
use Rattle.std.specs.Prelude.{ℕ, ◌≡◌, ◌≤◌, ◌⊎◌, List}
use Rattle.report_command.specs.declared.command_line.Job.{Job}
use Rattle.report_command.specs.declared.command_line.Job.TheVariants.{Show}
use Rattle.report_command.specs.declared.command_line.Job.TheVariants as jobs
use Rattle.report_command.specs.declared.races.RacesJob.{RacesJob}
use Rattle.report_command.specs.declared.search.Search.{Search}
use Rattle.report_command.specs.declared.show.ShowLook.{ShowLook}
use Rattle.report_jobs.specs.Prints.{WriterChange, Written}
use Rattle.report_jobs.specs.Jobs.{IsNoValidModule, IsNoRecordOf, IsRecordOf, HasNoSuchCall}
use Rattle.report_jobs.specs.Plain.{PerformsPlain}
use Rattle.report_looks.specs.Allowing.{SomeNamed}
use Rattle.report_looks.specs.Looked.{PrintsShow, stream_of}
use Rattle.report_looks.specs.Raced.{OfModule, IsRaceFree, IsRacy, PrintsRaces}
use Rattle.report.specs.Searched.{HasSearched}

-- What the status of a show says: 0 of a record of a run, and what was printed of it, 2 of a refused module, 3 of a
-- record of a run that has not what is asked for, 4 of a record of no run. 5 is that memory or a stream failed.
pub record Shows (bytes saved : List ℕ) (how : ShowLook) (out save : WriterChange) (status : ℕ) : Type 0 where
  pub shown : status ≡ 0 → IsRecordOf bytes saved
  pub prints : status ≡ 0 → OfModule (PrintsShow bytes how (stream_of how.view out save)) bytes saved
  pub refused : status ≡ 2 → IsNoValidModule bytes
  pub absent : status ≡ 3 → IsRecordOf bytes saved
  pub none : status ≡ 4 → IsNoRecordOf bytes saved
  pub statuses : (status ≡ 0) ⊎ (status ≡ 2) ⊎ (status ≡ 3) ⊎ (status ≡ 4) ⊎ (status ≡ 5)

-- What that of races says: 0 of a record of a run in which no accesses race that may not, 1 of one in which some do, 2,
-- 4 and 5 as of a show, and 3 of a record of a run, where races are allowed at data by names that the module hasn't.
pub record TellsRaces (bytes saved : List ℕ) (job : RacesJob) (out : WriterChange) (status : ℕ) : Type 0 where
  pub prints : status ≤ 1 → OfModule (PrintsRaces job.allow job.most job.form out) bytes saved
  pub free : status ≡ 0 → OfModule (IsRaceFree job.allow) bytes saved
  pub racy : status ≡ 1 → OfModule (IsRacy job.allow) bytes saved
  pub refused : status ≡ 2 → IsNoValidModule bytes
  pub absent : status ≡ 3 → IsRecordOf bytes saved
  pub named : status ≡ 3 → SomeNamed job.allow.bytes.items
  pub unfit : status ≡ 4 → IsNoRecordOf bytes saved
  pub statuses : status ≤ 5

-- What that of a search says: 0 and 1 of runs that were made, 2 of a refused module, 3 of a call that can't be made, or
-- where races are allowed at data by names that the module hasn't. 5 is that memory or a stream failed.
pub record Searches (bytes : List ℕ) (s : Search) (out save : WriterChange) (status : ℕ) : Type 0 where
  pub made : status ≤ 1 → HasSearched bytes s out save status
  pub refused : status ≡ 2 → IsNoValidModule bytes
  pub cannot : status ≡ 3 → HasNoSuchCall bytes s.call ⊎ SomeNamed s.allow.bytes.items
  pub statuses : (status ≤ 3) ⊎ (status ≡ 5)

-- What the status of a job says: of one that is no show and no search, what it says of a plain job.
abbrev pub Performs : Job → List ℕ → List ℕ → Written → ℕ → Type 0
Performs (Show file record_path names how) bytes saved w status = Shows bytes saved how w.out w.save status
Performs (jobs.Races job) bytes saved w status = TellsRaces bytes saved job w.out status
Performs (jobs.Search s) bytes saved w status = Searches bytes s w.out w.save status
Performs job bytes saved w status = PerformsPlain job bytes saved w status
