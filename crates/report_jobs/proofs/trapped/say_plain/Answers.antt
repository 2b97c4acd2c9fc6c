use Rattle.report_jobs.proofs.Trapping.{untold_plain}
use Rattle.report_jobs.proofs.trapped.say_plain.Goals as goal

pub returns-else-is_ok : goal.returns-else-is_ok
returns-else-is_ok g c = untold_plain c.args.thread c.args.trap (g.E.Write.contents c.args.err.now)
