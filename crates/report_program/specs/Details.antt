-- How much is said of what goes wrong.
use Rattle.std.specs.Prelude.{Bool, true, false}
use Rattle.report_command.specs.declared.explain.Explain.{Explain}
use Rattle.report_command.specs.declared.explain.Explain.TheVariants as orders
use Rattle.report_program.specs.declared.detail.Detail.{Detail}
use Rattle.report_program.specs.declared.detail.Detail.TheVariants.{Line, Reason, All}

-- As much as the words ask for, where standard error is a terminal or isn't.
abbrev pub detail_of : Explain → Bool → Detail
detail_of orders.Always is_terminal = All
detail_of orders.Never is_terminal = Line
detail_of orders.Auto true = All
detail_of orders.Auto false = Reason

-- All that explains it is said.
abbrev pub explains : Detail → Bool
explains All = true
explains Line = false
explains Reason = false
