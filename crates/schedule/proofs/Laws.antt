-- The laws, for crates above to cite.
use Rattle.schedule.specs.Theorems.{OneSchedule, ScheduleFollows, EveryOtherGivesTheSame}
use Rattle.schedule.specs.Theorems.{ThreadsWithBudgetsKeepTheLaws, ThreadsLeaveLast, ActsAndLossesFixTheEnd}
use Rattle.schedule.specs.Theorems.{ScheduledRunsGoOn}
use Rattle.schedule.proofs.Basics.{scheduled_run-append, entries_made-append, steps_made-append}
use Rattle.schedule.proofs.Standing.{facts}
use Rattle.schedule.proofs.Between.{same_tries}
use Rattle.schedule.proofs.Schedule as schedules
use Rattle.schedule.proofs.Following.{follows}
use Rattle.schedule.proofs.Others.{other_schedule}
use Rattle.schedule.proofs.Unique.{unique}
use Rattle.schedule.proofs.Budgets.{laws}
use Rattle.schedule.proofs.Leaving.{leaves_last}

pub one_schedule : (X T E V A : Type 0) → OneSchedule X T E V A
one_schedule X T E V A s keeps first places steps ends H run = schedules.one_schedule s (facts s keeps) steps ends first places H run

pub schedule_follows : (X T E V A W : Type 0) → ScheduleFollows X T E V A W
schedule_follows X T E V A W s rules keeps first places steps ends H run seen =
    follows s rules keeps first places steps ends H run seen (schedules.one_schedule s (facts s keeps) steps ends first places H run)

pub every_other_gives_the_same : (X T E V A : Type 0) → EveryOtherGivesTheSame X T E V A
every_other_gives_the_same X T E V A s keeps first places steps ends H run S makes same gone =
    other_schedule s (facts s keeps) first places steps ends H run S makes same gone

pub threads_with_budgets_keep_the_laws : (C E V A O X : Type 0) → ThreadsWithBudgetsKeepTheLaws C E V A O X
threads_with_budgets_keep_the_laws C E V A O X k keeps reply after gives starts = laws k keeps reply after gives starts

pub threads_leave_last : (C E V A O X : Type 0) → ThreadsLeaveLast C E V A O X
threads_leave_last C E V A O X k reply after gives starts c fuel steps end run = leaves_last k reply after gives starts steps c fuel end run

pub acts_and_losses_fix_the_end : (X T E V A : Type 0) → ActsAndLossesFixTheEnd X T E V A
acts_and_losses_fix_the_end X T E V A s keeps t end end' steps steps' run run' same_acts same_losses =
    unique s (facts s keeps) steps steps' t end end' run run' (same_tries steps steps' same_acts same_losses)

pub scheduled_runs_go_on : (X T E V A : Type 0) → ScheduledRunsGoOn X T E V A
scheduled_runs_go_on X T E V A s w S S' =
    record {
      run = scheduled_run-append s w S S';
      entries = entries_made-append s w S S';
      steps = λ m. steps_made-append s m w S S';
    }
