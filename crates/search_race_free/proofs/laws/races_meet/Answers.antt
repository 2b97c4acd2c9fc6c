use Rattle.search_race_free.proofs.laws.races_meet.Goals as goal
use Rattle.search_race_free.proofs.Meeting.{races-meet}

pub returns : goal.returns
returns g c = races-meet g.row.X.Denot g.row.T.Denot g.row.E.Denot g.row.V.Denot g.row.A.Denot
