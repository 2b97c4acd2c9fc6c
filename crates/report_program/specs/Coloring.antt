-- What a command line asks for, with colors as standard output takes them, and explained as standard error does.
use Rattle.std.specs.Prelude.{ℕ, ◌≡◌, Bool, List}
use Rattle.selection.specs.declared.choice.Color.{Color}
use Rattle.report_command.specs.declared.command_line.Job.{Job}
use Rattle.report_command.specs.declared.command_line.Job.TheVariants.{Check, Run, Replay, Show, Races, Search}
use Rattle.report_command.specs.declared.command_line.JobOrder.{JobOrder}
use Rattle.report_command.specs.Options.{IsAskedBy}
use Rattle.report_program.specs.declared.order.JobPlan.{JobPlan}
use Rattle.report_program.specs.Details.{detail_of, explains}

-- The same job, but for when threads of a show have colors, and whether the end of a run has the calls of a thread that trapped.
abbrev pub IsColored : Bool → Job → Job → Type 0
IsColored explain (Show file saved names how) new =
    (color : Color) × (new ≡ Show file saved names (record how { color = color }))
IsColored explain (Check file form) new = new ≡ Check file form
IsColored explain (Run job) new = new ≡ Run (record job { look = record job.look { traps = explain } })
IsColored explain (Replay file saved look) new = new ≡ Replay file saved (record look { traps = explain })
IsColored explain (Races job) new = new ≡ Races job
IsColored explain (Search s) new = new ≡ Search s

-- What the words ask for, where standard error is a terminal or isn't; but for colors.
pub record IsPlanOf (words : List (List ℕ)) (new : JobPlan) : Type 0 where
  pub order : JobOrder
  pub asked : IsAskedBy words order
  pub is_terminal : Bool
  pub detail : new.detail ≡ detail_of order.explain is_terminal
  pub job : IsColored (explains new.detail) order.job new.job
