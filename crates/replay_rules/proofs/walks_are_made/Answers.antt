use Rattle.replay_rules.proofs.Walking.{walks_are_made}
use Rattle.replay_rules.proofs.walks_are_made.Goals as goal

pub returns : goal.returns
returns g c = walks_are_made g.row.X.Denot g.row.T.Denot g.row.E.Denot g.row.V.Denot g.row.A.Denot g.row.W.Denot
