use Rattle.interp_trait.specs.Comes.{watched}
use Rattle.std.proofs.Common.{refl, ◌∙◌}
use Rattle.spawn_host_workers.proofs.Leaving.{runs_out}
use Rattle.spawn_host_workers.proofs.running.run_thread.Goals as goal

pub returns-clause-ran : goal.returns-clause-ran
returns-clause-ran g c t stands here =
    let m = g.M.SharedMemory in
    let ran = c.steps_to_end-outcome in
    let left = rw (ran.ensures.stays.same.name_is) at c.end.ensures.left in
    runs_out g.G.Gate (g.T.TakesTurns.meaning c.args.thread).fuel (g.T.TakesTurns.meaning c.args.thread).program m.LOSES m.opening
    (m.limit c.args.memory.now) (m.name c.args.seat) ran.result t _ c.spent-spent.result
    (watched m.seen m.lost c.args.seat c.args.gate) (watched m.seen m.lost ran.new.seat ran.new.gate)
    (watched m.seen m.lost c.end.new.seat ran.new.gate)
    (ran.ensures.ended t stands here) left c.end.ensures.stays.lost_is refl (λ x s. c.spent-spent.ensures x s ∙ ran.ensures.stays.stays.fuel)

pub end-requires-clause-free : goal.end-requires-clause-free
end-requires-clause-free g c κs within =
    let ran = c.steps_to_end-outcome.ensures.stays in rw ran.same.name_is ran.free

pub returns-clause-same : goal.returns-clause-same
returns-clause-same g c =
    let ran = c.steps_to_end-outcome.ensures.stays.same in
    let ended = c.end.ensures.stays.same in
    record { name_is = ended.name_is ∙ ran.name_is; right_is = ended.right_is ∙ ran.right_is }

pub returns-clause-last : goal.returns-clause-last
returns-clause-last g c =
    let left = rw (c.steps_to_end-outcome.ensures.stays.same.name_is) at c.end.ensures.left in
    record { seen = left.enters.seen; legal = left.enters.legal; gone = left.gone }
