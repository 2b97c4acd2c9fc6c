-- The number is that of the module which the bytes spell.
use Rattle.std.proofs.Common.{ℕ, subst}
use Rattle.std.specs.Io.KnownBytes.{Appends}
use Rattle.report_jobs.specs.Prints.{accepted_text}
use Rattle.report_jobs.proofs.job.functions_in.Goals as goal

pub returns-in-Ok-clause-ok : goal.returns-in-Ok-clause-ok
returns-in-Ok-clause-ok c = λ form old new line. record {
  parts = c.in-Ok.found;
  text = c.in-Ok.ensures.ok.0;
  valid = c.in-Ok.ensures.ok.1;
  line = subst (λ (n : ℕ). Appends old new (accepted_text form n)) c.count_functions-functions.ensures line;
}
