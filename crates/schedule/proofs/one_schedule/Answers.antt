use Rattle.schedule.proofs.one_schedule.Goals as goal
use Rattle.schedule.proofs.Laws as laws

pub returns : goal.returns
returns g c = laws.one_schedule g.row.X.Denot g.row.T.Denot g.row.E.Denot g.row.V.Denot g.row.A.Denot
