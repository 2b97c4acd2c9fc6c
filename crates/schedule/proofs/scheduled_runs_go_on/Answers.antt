use Rattle.schedule.proofs.scheduled_runs_go_on.Goals as goal
use Rattle.schedule.proofs.Laws as laws

pub returns : goal.returns
returns g c = laws.scheduled_runs_go_on g.row.X.Denot g.row.T.Denot g.row.E.Denot g.row.V.Denot g.row.A.Denot
