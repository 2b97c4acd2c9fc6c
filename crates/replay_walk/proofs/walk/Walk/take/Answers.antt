use Rattle.std.proofs.Common.{sym, ap, subst}
use Rattle.types.specs.declared.event.Event.{Event}
use Rattle.types.specs.declared.event.Reply.{Reply}
use Rattle.types.specs.declared.event.Answer.{Answer}
use Rattle.schedule.specs.System.{Act}
use Rattle.schedule_threads.specs.Shared.{act_by}
use Rattle.replay_walk.specs.Walked.{IsRefused}
use Rattle.replay_walk.proofs.walk.Walk.take.Goals as goal

pub returns-in-Told-clause-refused : goal.returns-in-Told-clause-refused
returns-in-Told-clause-refused g c = λ no s st same.
    subst (λ (a : Act Event Reply Answer). IsRefused s c.args.limit c.args.at c.args.entry.now.thread a)
    (sym (ap (λ (x : Event). act_by x c.args.entry.now.reply) c.in-Told.is))
    (c.take_told.ensures.refused no s c.args.limit c.args.at st)

pub returns-in-Ask-Leave-clause-refused : goal.returns-in-Ask-Leave-clause-refused
returns-in-Ask-Leave-clause-refused g c = λ no s st same. c.take_leave.ensures.refused no s st
