use Rattle.search_settled.proofs.Knowing.{unheard-none, unheard-more}
use Rattle.search_settled.proofs.turns.is_quiet.Goals as goal

pub loop-m-init : goal.loop-m-init
loop-m-init g c = unheard-none (g.M.Moves.threads c.args.system.now) c.args.made.now c.args.n

pub loop-m-preserved : goal.loop-m-preserved
loop-m-preserved g c =
    unheard-more (g.M.Moves.threads c.args.system.now) c.args.made.now c.args.n c.loop-m.m c.loop-m.invariant (c.is_told.ensures c.if-is_told.false)
