use Rattle.std.proofs.Common.{refl}
use Rattle.shared_memory.proofs.Soundness.{alive_below}
use Rattle.types.specs.declared.event.Event.TheVariants as events
use Rattle.types.specs.declared.event.Question.TheVariants.{Leave}
use Rattle.types.specs.declared.event.Reply.TheVariants.{Done}
use Rattle.replay_walk.proofs.Made.{is_free}
use Rattle.replay_walk.proofs.Taken.{took_as}
use Rattle.search_scheduled.proofs.making.leave.Goals as goal

pub leave-requires-clause-free : goal.leave-requires-clause-free
leave-requires-clause-free g c =
    let r = c.requires in
    let m = r.3 in
    let w = c.args.walk.now in
    is_free g.T.TakesTurns.meaning r.0 w.threads.items w.stage.queue w.stage.started w.stage.ends c.args.n m.settled m.on

pub leave-requires-clause-number : goal.leave-requires-clause-number
leave-requires-clause-number g c =
    let m = c.requires.3 in
    alive_below c.args.walk.now.stage.queue m.on.standing.sound c.args.n m.on.alive

pub returns-clause-taken : goal.returns-clause-taken
returns-clause-taken g c = λ s limit at m same.
    let w = c.args.walk.now in
    took_as g.T.TakesTurns.meaning s limit at c.args.n (events.Ask Leave) Done m.thread m.can _ refl _ w.threads.items refl
    w.memory c.leave.new.self.queue c.leave.new.self.started c.leave.new.self.ends same
    (c.leave.ensures.stands s m.settled m.thread w.threads.items m.on (m.can).wants m.ended m.left m.here)
