use Rattle.std.proofs.Common.{◌≡◌, sym, subst}
use Rattle.report_jobs.specs.Jobs.{IsNoValidModule}
use Rattle.report_jobs.specs.Undone.{undone_status}
use Rattle.report_jobs.specs.declared.undone.Undone.{Undone}
use Rattle.report_jobs.proofs.Ended.{done_at}
use Rattle.report_jobs.proofs.Outcomes.{no_module}
use Rattle.report_jobs.proofs.job.check.Goals as goal

pub returns-in-Ok-clause-accepted : goal.returns-in-Ok-clause-accepted
returns-in-Ok-clause-accepted g c = λ zero. c.in-Ok.ensures.ok c.args.form _ _
    (done_at _ c.accept.result c.accept.ensures.written c.accept.ensures.failed zero)

pub returns-in-Err-clause-refused : goal.returns-in-Err-clause-refused
returns-in-Err-clause-refused g c =
    subst (λ (why : Undone). undone_status why ≡ 2 → IsNoValidModule c.args.bytes.now) (sym c.of_refusal.ensures)
    (no_module c.args.bytes.now c.in-Err.refusal c.in-Err.ensures.err)
