use Rattle.search_graph.proofs.Rounds.{fair-run-along}
use Rattle.search_graph.proofs.laws.a_fair_run_begins_before.Goals as goal

pub returns : goal.returns
returns g c = fair-run-along (g.T.StandsFor.worlds c.args.worlds.now) (g.T.StandsFor.among c.args.worlds.now)
