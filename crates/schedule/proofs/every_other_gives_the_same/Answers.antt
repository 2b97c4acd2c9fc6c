use Rattle.schedule.proofs.every_other_gives_the_same.Goals as goal
use Rattle.schedule.proofs.Laws as laws

pub returns : goal.returns
returns g c = laws.every_other_gives_the_same g.row.X.Denot g.row.T.Denot g.row.E.Denot g.row.V.Denot g.row.A.Denot
