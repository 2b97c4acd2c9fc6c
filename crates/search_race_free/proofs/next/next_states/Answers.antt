use Rattle.std.proofs.Common.{arith}
use Rattle.search_race_free.proofs.Following.{below-all}
use Rattle.search_race_free.proofs.next.next_states.Goals as goal

pub returns : goal.returns
returns g c = below-all (g.M.Moves.threads c.args.system.now) c.args.from.now c.loop-n.n c.loop-n.all.items c.loop-n.invariant.below (omega arith)
