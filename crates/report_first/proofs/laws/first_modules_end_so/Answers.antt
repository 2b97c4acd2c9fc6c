use Rattle.report_first.proofs.Ends.{first_modules_end_so}
use Rattle.report_first.proofs.laws.first_modules_end_so.Goals as goal

pub returns : goal.returns
returns c = first_modules_end_so
