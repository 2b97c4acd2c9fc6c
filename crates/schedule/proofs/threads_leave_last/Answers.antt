use Rattle.schedule.proofs.threads_leave_last.Goals as goal
use Rattle.schedule.proofs.Laws as laws

pub returns : goal.returns
returns g c = laws.threads_leave_last g.row.C.Denot g.row.E.Denot g.row.V.Denot g.row.A.Denot g.row.O.Denot g.row.X.Denot
