use Rattle.std.proofs.lemmas.Result.{err_from_is_err_and}
use Rattle.search_scheduled.proofs.Answers.{goes_heard}
use Rattle.search_scheduled.proofs.course.Course.advance.Goals as goal

pub hear_all-requires : goal.hear_all-requires
hear_all-requires g c = (c.requires.0, c.in_ok-entry.ensures.goes.runs c.requires.0 c.requires.1)

pub returns-in_ok-hear_all-clause-goes : goal.returns-in_ok-hear_all-clause-goes
returns-in_ok-hear_all-clause-goes g c =
    goes_heard g.T.TakesTurns.meaning c.args.n c.in_ok-entry.entry c.args.self.now c.step.new.self c.hear_all.new.self
    c.in_ok-entry.ensures.goes c.in_ok-hear_all.ensures.heard

pub returns-in_err-entry-clause-none : goal.returns-in_err-entry-clause-none
returns-in_err-entry-clause-none g c =
    let p = err_from_is_err_and c.from_residual.result c.from_residual.ensures.1 in
    rw (p.1, p.2) (λ same may. c.in_err-entry.ensures.none same may)

pub returns-in_ok-hear_all-clause-ear : goal.returns-in_ok-hear_all-clause-ear
returns-in_ok-hear_all-clause-ear g c = λ first v h. c.in_ok-hear_all.ensures.ear first v (c.in_ok-entry.ensures.ear first v h)
