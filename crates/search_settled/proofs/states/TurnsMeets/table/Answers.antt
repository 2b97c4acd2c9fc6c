use Rattle.search_settled.proofs.Meeting.{nothing-yet}
use Rattle.search_settled.proofs.states.TurnsMeets.table.Goals as goal

pub returns : goal.returns
returns g c =
    let m = c.args.self.now.system.now in
    nothing-yet (g.M.Moves.threads m) (g.M.Moves.ends m) (g.M.Moves.stuck m)
    (record { met = record { parts = c.new.result; known = c.new-2.result }; states = c.new-3.result }) c.new-3.ensures.are c.new-3.ensures.states
    c.new-2.ensures.items
