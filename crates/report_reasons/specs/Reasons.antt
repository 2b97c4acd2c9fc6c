-- The lines that explain what came of a job.
use Rattle.std.specs.Prelude.{ℕ, Err, List, Result, ⊤}
use Rattle.replay_text.specs.declared.fault.RecordFault.{RecordFault}
use Rattle.replay_text.specs.declared.fault.RecordFault.TheVariants as faults
use Rattle.report_jobs.specs.declared.undone.Done.{Done}
use Rattle.report_jobs.specs.declared.undone.Refused.{Refused}
use Rattle.report_jobs.specs.declared.undone.Refused.TheVariants as refused
use Rattle.report_jobs.specs.declared.undone.Undone.{Undone}
use Rattle.report_jobs.specs.declared.undone.Undone.TheVariants as undone
use Rattle.report_reasons.specs.Lines.{BeginsWithLine}

-- Where a line of a record is refused, what is added begins with this line of it.
abbrev pub NamesLine : Refused → List ℕ → List ℕ → List ℕ → Type 0
NamesLine (refused.Header n) saved old new = BeginsWithLine saved n old new
NamesLine (refused.Unreadable n) saved old new = BeginsWithLine saved n old new
NamesLine (refused.Line n misfit) saved old new = BeginsWithLine saved n old new
NamesLine (refused.EndLine n misfit) saved old new = BeginsWithLine saved n old new
NamesLine why saved old new = ⊤

abbrev pub Explains : Result Done Undone → List ℕ → List ℕ → List ℕ → Type 0
Explains (Err (undone.Refused why)) saved old new = NamesLine why saved old new
Explains ended saved old new = ⊤
