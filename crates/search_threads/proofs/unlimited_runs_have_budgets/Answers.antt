use Rattle.search_threads.proofs.unlimited_runs_have_budgets.Goals as goal
use Rattle.search_threads.proofs.Laws as laws

pub returns : goal.returns
returns g c = laws.unlimited_runs_have_budgets g.row.C.Denot g.row.E.Denot g.row.V.Denot g.row.A.Denot g.row.O.Denot g.row.X.Denot
