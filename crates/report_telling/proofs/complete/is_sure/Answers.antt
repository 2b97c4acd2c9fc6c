use Rattle.report_telling.proofs.Sure.{sure_where_known}
use Rattle.report_telling.proofs.complete.is_sure.Goals as goal

pub returns-in-Some : goal.returns-in-Some
returns-in-Some c = sure_where_known c.args.all.now c.in-Some.liveness c.ends_for_sure.result c.in-All.is c.in-Some.is c.ends_for_sure.ensures
