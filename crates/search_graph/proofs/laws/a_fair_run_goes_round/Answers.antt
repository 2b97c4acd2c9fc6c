use Rattle.search_graph.proofs.Rounds.{fair-run-round}
use Rattle.search_graph.proofs.laws.a_fair_run_goes_round.Goals as goal

pub returns : goal.returns
returns g c = fair-run-round (g.T.StandsFor.worlds c.args.worlds.now) (g.T.StandsFor.rests c.args.worlds.now) (g.T.StandsFor.among c.args.worlds.now)
