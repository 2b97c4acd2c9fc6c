use Rattle.std.proofs.Common.{◌≡◌, inr, sym, subst}
use Rattle.report_jobs.specs.Jobs.{CannotRun, IsNoValidModule}
use Rattle.report_jobs.specs.Undone.{undone_status}
use Rattle.report_jobs.specs.declared.undone.Undone.{Undone}
use Rattle.report_jobs.proofs.Outcomes.{unready_no_module, unready_cannot_run}
use Rattle.report_jobs.proofs.job.run.Goals as goal

pub returns-in-Err-clause-refused : goal.returns-in-Err-clause-refused
returns-in-Err-clause-refused g c =
    subst (λ (why : Undone). undone_status why ≡ 2 → IsNoValidModule c.args.module.now) (sym c.of_unready.ensures)
    (unready_no_module c.args.module.now c.args.over.now c.args.job.now.memory_in _ c.in-Err.unready c.in-Err.ensures.err)

pub returns-in-Err-clause-cannot : goal.returns-in-Err-clause-cannot
returns-in-Err-clause-cannot g c =
    subst (λ (why : Undone). undone_status why ≡ 3 → CannotRun c.args.module.now c.args.over.now c.args.job.now)
    (sym c.of_unready.ensures)
    (unready_cannot_run c.args.module.now c.args.over.now c.args.job.now _ c.in-Err.unready c.in-Err.ensures.err)
