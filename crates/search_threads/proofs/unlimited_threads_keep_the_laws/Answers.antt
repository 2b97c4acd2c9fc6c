use Rattle.search_threads.proofs.unlimited_threads_keep_the_laws.Goals as goal
use Rattle.search_threads.proofs.Laws as laws

pub returns : goal.returns
returns g c = laws.unlimited_threads_keep_the_laws g.row.C.Denot g.row.E.Denot g.row.V.Denot g.row.A.Denot g.row.O.Denot g.row.X.Denot
