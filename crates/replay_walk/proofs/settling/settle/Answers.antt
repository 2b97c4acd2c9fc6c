use Rattle.replay_walk.proofs.Turning.{settles_paused}
use Rattle.replay_walk.proofs.settling.settle.Goals as goal

pub returns-clause-settled : goal.returns-clause-settled
returns-clause-settled g c = λ t stands here.
    settles_paused (g.T.TakesTurns.meaning c.args.thread.now).program t c.own_turns.result
    (g.T.TakesTurns.meaning c.own_turns.new.self).stands _ here (c.own_turns.ensures.turned t stands here)
