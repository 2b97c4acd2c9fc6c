use Rattle.replay_rules.proofs.Walking.{ends_are_the_same}
use Rattle.replay_rules.proofs.ends_are_the_same.Goals as goal

pub returns : goal.returns
returns g c = ends_are_the_same g.row.X.Denot g.row.T.Denot g.row.E.Denot g.row.V.Denot g.row.A.Denot g.row.W.Denot
