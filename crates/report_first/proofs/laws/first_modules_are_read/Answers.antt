use Rattle.report_first.proofs.Text.{first_modules_are_read}
use Rattle.report_first.proofs.laws.first_modules_are_read.Goals as goal

pub returns : goal.returns
returns c = first_modules_are_read
