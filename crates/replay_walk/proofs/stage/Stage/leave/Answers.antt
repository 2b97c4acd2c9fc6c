use Rattle.std.proofs.Common.{sym, subst}
use Rattle.shared_memory.specs.WaitQueue.{WaitQueue}
use Rattle.types.specs.declared.event.Event.TheVariants as events
use Rattle.types.specs.declared.event.Question.TheVariants.{Leave}
use Rattle.types.specs.declared.event.Reply.TheVariants.{Done}
use Rattle.std.proofs.Common.{Some, slice_set}
use Rattle.replay_walk.specs.Standing.{IsStanding, made_by}
use Rattle.replay_walk.proofs.Leaving.{left_on}
use Rattle.replay_walk.proofs.stage.Stage.leave.Goals as goal

pub returns-clause-stands : goal.returns-clause-stands
returns-clause-stands g c = λ s t u threads on wants over same here.
    subst (λ (q : WaitQueue). IsStanding g.T.TakesTurns.meaning (made_by s c.args.n (events.Ask Leave) Done u) threads q c.args.self.now.started
    (slice_set c.args.self.now.ends c.args.n (Some c.args.outcome))) (sym c.ask.ensures.after)
    (left_on g.T.TakesTurns.meaning s threads c.args.self.now.queue c.args.self.now.started c.args.self.now.ends c.args.n
    t on u c.args.outcome c.requires.number over same here)
