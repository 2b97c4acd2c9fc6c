use Rattle.schedule.proofs.schedule_follows.Goals as goal
use Rattle.schedule.proofs.Laws as laws

pub returns : goal.returns
returns g c = laws.schedule_follows g.row.X.Denot g.row.T.Denot g.row.E.Denot g.row.V.Denot g.row.A.Denot g.row.W.Denot
