use Rattle.std.proofs.Common.{refl}
use Rattle.report_program.proofs.order.colored.Goals as goal

pub returns-in-Show-clause-same : goal.returns-in-Show-clause-same
returns-in-Show-clause-same c = rw c.in-Show.is (c.color_on.result, refl)
