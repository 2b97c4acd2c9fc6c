use Rattle.std.proofs.lemmas.Result.{IfOk-weaker}
use Rattle.search_race_free.specs.Search.{ComesAlone, ComesOnward, IsCame}
use Rattle.search_race_free.proofs.Continuing.{came-more}
use Rattle.search_race_free.proofs.onward.run_free.Goals as goal

pub returns-then-is_free : goal.returns-then-is_free
returns-then-is_free g c s are one =
    let k = g.M.Moves.threads c.args.system.now in
    let stuck = g.M.Moves.stuck c.args.system.now in
    IfOk-weaker c.run_alone.result (IsCame k stuck c.args.at.flat (ComesAlone k c.args.m c.args.at)) (IsCame k stuck s.flat (ComesOnward k c.args.n s))
    (came-more k (g.met.M.Moves.tame c.args.system.now) (g.met.M.Accesses.plain c.args.system.now) stuck s c.args.at c.args.n c.args.m c.args.before.now are
    (c.is_free.ensures c.if-is_free.true) one)
    c.run_alone.ensures
