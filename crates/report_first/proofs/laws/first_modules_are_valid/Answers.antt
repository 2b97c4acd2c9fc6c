use Rattle.report_first.proofs.Valid.{first_modules_are_valid}
use Rattle.report_first.proofs.laws.first_modules_are_valid.Goals as goal

pub returns : goal.returns
returns c = first_modules_are_valid
