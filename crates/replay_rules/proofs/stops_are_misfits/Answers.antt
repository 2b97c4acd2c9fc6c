use Rattle.replay_rules.proofs.Walking.{stops_are_misfits}
use Rattle.replay_rules.proofs.stops_are_misfits.Goals as goal

pub returns : goal.returns
returns g c = stops_are_misfits g.row.X.Denot g.row.T.Denot g.row.E.Denot g.row.V.Denot g.row.A.Denot g.row.W.Denot
