use Rattle.search_threads.proofs.runs_without_stops_need_no_budget.Goals as goal
use Rattle.search_threads.proofs.Laws as laws

pub returns : goal.returns
returns g c = laws.runs_without_stops_need_no_budget g.row.C.Denot g.row.E.Denot g.row.V.Denot g.row.A.Denot g.row.O.Denot g.row.X.Denot
