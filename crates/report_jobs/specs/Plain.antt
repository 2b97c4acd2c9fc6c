-- The plain jobs of the command line: a check, a run and a replay.
use Rattle.std.specs.Prelude.{ℕ, List}
use Rattle.report_command.specs.declared.command_line.Job.{Job}
use Rattle.report_command.specs.declared.command_line.Job.TheVariants.{Check, Run, Replay, Show}
use Rattle.report_command.specs.declared.command_line.Job.TheVariants as jobs
use Rattle.report_jobs.specs.Prints.{Written}
use Rattle.report_jobs.specs.Jobs.{Checks, Runs, Replays}

-- A job is one of these.
abbrev pub IsPlain : Job → Type 0
IsPlain (Check file form) = Unit {0}
IsPlain (Run job) = Unit {0}
IsPlain (Replay file record_path look) = Unit {0}
IsPlain (Show file record_path names how) = ⊥
IsPlain (jobs.Races job) = ⊥
IsPlain (jobs.Search s) = ⊥

-- What the status of a plain job says.
abbrev pub PerformsPlain : Job → List ℕ → List ℕ → Written → ℕ → Type 0
PerformsPlain (Check file form) bytes saved w status = Checks bytes form w.out status
PerformsPlain (Run job) bytes saved w status = Runs bytes saved job w status
PerformsPlain (Replay file record_path look) bytes saved w status = Replays bytes saved look w.out w.err status
PerformsPlain (Show file record_path names how) bytes saved w status = Unit {0}
PerformsPlain (jobs.Races job) bytes saved w status = Unit {0}
PerformsPlain (jobs.Search s) bytes saved w status = Unit {0}
