use Rattle.search_graph.proofs.Shadow.{no-fair-run}
use Rattle.search_graph.proofs.laws.no_fair_run_goes_on.Goals as goal

pub returns : goal.returns
returns g c =
    no-fair-run (g.T.StandsFor.worlds c.args.worlds.now) (g.T.StandsFor.stands c.args.worlds.now) (g.T.StandsFor.most c.args.worlds.now)
