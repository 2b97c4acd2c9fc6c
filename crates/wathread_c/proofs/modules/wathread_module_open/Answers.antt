use Rattle.wathread_c.proofs.Held.{opened, unopened}
use Rattle.wathread_c.proofs.modules.wathread_module_open.Goals as goal

pub returns-in-Ok : goal.returns-in-Ok
returns-in-Ok c = opened c.args.module.now _ _ _ _ _ c.in-Ok.kept c.in-Ok.ensures.module c.accept.ensures

pub returns-in-Err : goal.returns-in-Err
returns-in-Err c = unopened c.args.module.now _ _ _ _ _ c.in-Err.fault c.in-Err.ensures.fault c.take.ensures.closed c.refuse.ensures.told
