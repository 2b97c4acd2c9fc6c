-- What stays as it was, where a call is refused; and which jobs make a file.
use Rattle.std.specs.Prelude.{◌≡◌, Bool, false, is_some}
use Rattle.report_command.specs.declared.command_line.Job.{Job}
use Rattle.report_command.specs.declared.command_line.Job.TheVariants.{Show}
use Rattle.report_command.specs.declared.command_line.Job.TheVariants as jobs
use Rattle.report_command.specs.Views.{path_of}
use Rattle.report_command.specs.declared.search.Search.{Search}
use Rattle.report_jobs.specs.Silence.{Stays, makes_file}
use Rattle.report_jobs.specs.declared.streams.Streams.{Streams}
use Rattle.report_jobs.specs.declared.running.Trouble.{Trouble}
use Rattle.report_jobs.specs.declared.running.Trouble.TheVariants as troubles

-- This holds where the call can't be made.
abbrev pub IfRefusedCall : Trouble → Type 0 → Type 0
IfRefusedCall (troubles.Call fault) P = P
IfRefusedCall troubles.NoThread P = Unit {0}
IfRefusedCall troubles.NoMemory P = Unit {0}
IfRefusedCall troubles.Output P = Unit {0}
IfRefusedCall troubles.Save P = Unit {0}
IfRefusedCall troubles.SaveMemory P = Unit {0}

-- Of the streams that a search doesn't write to nothing changed: those of the line about what went wrong and of a
-- memory, and that of the record, where none is wanted.
abbrev pub LeavesOthers : {W E S : Type 0} → Search → Streams W E S → Streams W E S → Type 0
LeavesOthers s old new =
    (is_some s.save ≡ false → Stays old.save new.save) × Stays old.err new.err × Stays old.memory new.memory

-- A file is made by the job: a record, a page or a trace.
abbrev pub writes_file : Job → Bool
writes_file (Show file record_path names how) = is_some (path_of how.view)
writes_file (jobs.Races job) = false
writes_file (jobs.Search s) = is_some s.save
writes_file job = makes_file job
