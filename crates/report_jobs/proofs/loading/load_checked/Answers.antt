use Rattle.report_jobs.proofs.Refusing.{of_fault}
use Rattle.report_jobs.proofs.loading.load_checked.Goals as goal

pub returns-in-Err-clause-err : goal.returns-in-Err-clause-err
returns-in-Err-clause-err c =
    of_fault c.args.bytes.now c.in_ok-module.module c.in-Err.fault c.in_ok-module.ensures.ok c.in-Err.ensures.complete
