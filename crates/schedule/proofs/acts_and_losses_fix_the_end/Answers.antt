use Rattle.schedule.proofs.acts_and_losses_fix_the_end.Goals as goal
use Rattle.schedule.proofs.Laws as laws

pub returns : goal.returns
returns g c = laws.acts_and_losses_fix_the_end g.row.X.Denot g.row.T.Denot g.row.E.Denot g.row.V.Denot g.row.A.Denot
