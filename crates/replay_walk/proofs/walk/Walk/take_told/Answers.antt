use Rattle.std.proofs.Common.{List, sym, ◌∙◌, subst}
use Rattle.std.proofs.lemmas.List.{take_at}
use Rattle.schedule.specs.System.{Act.Heard}
use Rattle.replay_walk.specs.Standing.{IsStanding}
use Rattle.replay_walk.specs.Walked.{HasTaken}
use Rattle.replay_walk.proofs.Taken.{took_told}
use Rattle.replay_walk.proofs.Replaced.{count_back}
use Rattle.replay_walk.proofs.walk.Walk.take_told.Goals as goal

pub returns-clause-taken : goal.returns-clause-taken
returns-clause-taken g c = λ yes s limit at st same.
    let lent : IsStanding g.T.TakesTurns.meaning s c.deref_mut.result.now c.args.self.now.stage.queue c.args.self.now.stage.started c.args.self.now.stage.ends =
    subst (λ (l : List g.row.T.Denot). IsStanding g.T.TakesTurns.meaning s l c.args.self.now.stage.queue
    c.args.self.now.stage.started c.args.self.now.stage.ends) (sym c.deref_mut.ensures.value) st in
    subst (λ (l : List g.row.T.Denot). HasTaken g.T.TakesTurns.meaning s limit at c.args.n (Heard c.args.answer) l
    c.args.self.now.memory c.tell.new.self.queue c.tell.new.self.started
    c.tell.new.self.ends)
    (sym (take_at c.tell.new.threads _ c.args.self.now.threads.len (c.tell.ensures.count ∙ c.deref_mut.ensures.len)))
    (took_told g.T.TakesTurns.meaning s limit at c.args.n c.args.answer c.tell.new.threads c.args.self.now.memory
    c.tell.new.self.queue c.tell.new.self.started c.tell.new.self.ends same
    (c.tell.ensures.told yes s lent))

pub tell-requires : goal.tell-requires
tell-requires g c =
    record {
      standing = (
        c.requires.standing.0,
        subst (λ (l : List g.row.T.Denot). IsStanding g.T.TakesTurns.meaning c.requires.standing.0 l
            c.args.self.now.stage.queue c.args.self.now.stage.started c.args.self.now.stage.ends) (sym c.deref_mut.ensures.value) c.requires.standing.1,
      );
    }

pub returns-clause-count : goal.returns-clause-count
returns-clause-count g c = count_back c.tell.new.threads c.deref_mut.result.now _ _ _
    c.tell.ensures.count c.deref_mut.ensures.value c.deref_mut.ensures.len
