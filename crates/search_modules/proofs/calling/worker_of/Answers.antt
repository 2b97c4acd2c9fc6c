use Rattle.std.proofs.Common.{refl}
use Rattle.search_modules.proofs.calling.worker_of.Goals as goal

pub returns : goal.returns
returns c =
    let start = c.thread_start.ensures.start in
    (c.if-not-starts_threads.ensures.0 refl, start.0, start.1, start.2)
