use Rattle.report_memory.proofs.Lying.{laid_valid}
use Rattle.report_memory.proofs.laws.laid_modules_are_valid.Goals as goal

pub returns : goal.returns
returns c = laid_valid
