use Rattle.std.proofs.Common.{List, sym, ◌∙◌, subst}
use Rattle.std.proofs.lemmas.List.{take_at}
use Rattle.schedule.specs.System.{Act.Heard}
use Rattle.replay_walk.specs.Standing.{IsStanding}
use Rattle.replay_walk.specs.Walked.{HasTaken}
use Rattle.replay_walk.proofs.Taken.{took_told}
use Rattle.search_scheduled.proofs.hearing.hear.Goals as goal

pub returns-clause-heard : goal.returns-clause-heard
returns-clause-heard g c = λ answer is s limit at st same.
    let w = c.args.walk.now in
    let lent : IsStanding g.T.TakesTurns.meaning s c.deref_mut.result.now w.stage.queue w.stage.started w.stage.ends =
    subst (λ (l : List g.row.T.Denot). IsStanding g.T.TakesTurns.meaning s l w.stage.queue w.stage.started w.stage.ends)
    (sym c.deref_mut.ensures.value) st in
    let stage = c.hear_due.new.stage in
    subst (λ (l : List g.row.T.Denot). HasTaken g.T.TakesTurns.meaning s limit at c.args.n (Heard answer) l
    w.memory stage.queue stage.started stage.ends)
    (sym (take_at c.hear_due.new.threads _ w.threads.len (c.hear_due.ensures.count ∙ c.deref_mut.ensures.len)))
    (took_told g.T.TakesTurns.meaning s limit at c.args.n answer c.hear_due.new.threads w.memory
    stage.queue stage.started stage.ends same
    (c.hear_due.ensures.told answer is s lent))
