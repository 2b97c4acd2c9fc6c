use Rattle.search_settled.proofs.Leveling.{ends-behind-all}
use Rattle.search_settled.proofs.states.search_all.Goals as goal

pub returns-clause-levels : goal.returns-clause-levels
returns-clause-levels g c =
    let m = c.args.system.now in
    ends-behind-all (g.M.Moves.threads m) (g.M.Moves.ends m) (g.M.Moves.stuck m) c.all_endings.result g.M.Ending.PartialEq.eq c.all_endings.ensures.levels
