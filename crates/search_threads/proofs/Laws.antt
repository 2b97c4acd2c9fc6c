-- The laws, for crates above to cite.
use Rattle.std.proofs.Common.{ℕ, List, subst, sym}
use Rattle.schedule.specs.System.{Step}
use Rattle.schedule.specs.Schedules.{schedule_of, IsOneSchedule}
use Rattle.schedule.proofs.Laws as schedules
use Rattle.search_threads.specs.Budgets.{UnlimitedThreadsKeepTheLaws, RunsWithoutStopsNeedNoBudget, UnlimitedRunsHaveBudgets}
use Rattle.search_threads.specs.Budgets.{without_budget, first_state_without, unmetered}
use Rattle.search_threads.specs.Unlimited.{Unlimited}
use Rattle.search_threads.specs.Budgets.{started_without}
use Rattle.search_threads.proofs.Keeping as keeping
use Rattle.search_threads.proofs.Unmetering.{kept, threads_run}
use Rattle.search_threads.proofs.Turns.{schedule_turns, kept_no_tries}
use Rattle.search_threads.proofs.Budgeting.{runs_with_budget}

pub unlimited_threads_keep_the_laws : (C E V A O X : Type 0) → UnlimitedThreadsKeepTheLaws C E V A O X
unlimited_threads_keep_the_laws C E V A O X k keeps reply after gives starts =
    keeping.laws k keeps reply after gives (λ (x : X) (n : ℕ) (e : E) (m : ℕ). started_without (starts x n e m))

pub runs_without_stops_need_no_budget : (C E V A O X : Type 0) → RunsWithoutStopsNeedNoBudget C E V A O X
runs_without_stops_need_no_budget C E V A O X k keeps reply after gives starts fuel x first places steps ends H run fine =
    let u = without_budget k reply after gives starts in
    let start = first_state_without k reply after gives starts x first in
    let steps' : ℕ → List (Step E V A) = λ m. kept (steps m) in
    let ends' : ℕ → Unlimited C O = λ m. unmetered (ends m) in
    let only = schedule_turns H steps' (λ m. kept_no_tries (steps m)) in
    let one : IsOneSchedule u start places steps' ends' H (schedule_of H steps') =
    schedules.one_schedule X (Unlimited C O) E V A u (unlimited_threads_keep_the_laws C E V A O X k keeps reply after gives starts)
    start places steps' ends' H (threads_run k reply after gives starts fuel steps ends fine x first places H run) in
    let here : IsOneSchedule u start places steps' ends' H _ = subst (λ S. IsOneSchedule u start places steps' ends' H S) (sym only.are) one in
    record { turns = only.turns; makes = here.makes; shared = here.gives.shared; threads = here.gives.threads }

pub unlimited_runs_have_budgets : (C E V A O X : Type 0) → UnlimitedRunsHaveBudgets C E V A O X
unlimited_runs_have_budgets C E V A O X k reply after gives starts fuel x first turns within =
    runs_with_budget k reply after gives starts fuel x first turns within
