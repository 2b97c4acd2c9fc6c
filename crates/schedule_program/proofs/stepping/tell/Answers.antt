use Rattle.std.proofs.Common.{rules, ◌<◌, length, sym, ◌∙◌, subst}
use Rattle.schedule.specs.Scheduled.{hears_any}
use Rattle.schedule_program.specs.Threads.{IsThread}
use Rattle.schedule_machine.specs.Runs.{system_by, all_hear}
use Rattle.schedule_program.proofs.Slots.{thread_in, are_put, none_heard, none_of, told_there}
use Rattle.schedule_program.proofs.stepping.tell.Goals as goal

pub index_mut-requires : goal.index_mut-requires
index_mut-requires g c =
    let m = g.T.TakesTurns in
    let r = c.requires in
    let there : c.args.n < length c.args.threads.now.items =
    told_there m.meaning r.0 c.args.threads.now.items r.1 c.args.queue.now c.args.n c.in-Some.answer r.2 r.3
    (sym c.told.ensures.answer ∙ c.in-Some.is) in
    search rules

pub hear-requires : goal.hear-requires
hear-requires g c =
    let m = g.T.TakesTurns in
    let r = c.requires in
    let x = c.index_mut.result.now in
    let due = sym c.told.ensures.answer ∙ c.in-Some.is in
    let within = told_there m.meaning r.0 c.args.threads.now.items r.1 c.args.queue.now c.args.n c.in-Some.answer r.2 r.3 due in
    let is = thread_in m.meaning r.0 c.args.threads.now.items r.1 c.args.n x within r.2 in (
      r.0,
      r.1 c.args.n,
      subst (λ z. IsThread m.meaning r.0 z (r.1 c.args.n)) (sym c.index_mut.ensures.value) is,
      r.3 c.args.n c.in-Some.answer due,
    )

pub returns-in-Some-clause-threads : goal.returns-in-Some-clause-threads
returns-in-Some-clause-threads g c s f are may =
    let m = g.T.TakesTurns in
    let n = c.args.n in
    let q = c.args.queue.now in
    let x = c.index_mut.result.now in
    let due = sym c.told.ensures.answer ∙ c.in-Some.is in
    let within = told_there m.meaning s c.args.threads.now.items f q n c.in-Some.answer are may due in
    let is = subst (λ z. IsThread m.meaning s z (f n)) (sym c.index_mut.ensures.value)
    (thread_in m.meaning s c.args.threads.now.items f n x within are) in
    let heard = c.hear.ensures s (f n) is (may n c.in-Some.answer due) in
    are_put m.meaning s c.args.threads.now.items f n c.hear.new.self (all_hear s f q n) within are
    (subst (λ o. IsThread m.meaning s c.hear.new.self (hears_any (system_by s) (f n) o)) (sym due) heard)

pub returns-in_default-clause-threads : goal.returns-in_default-clause-threads
returns-in_default-clause-threads g c s f are may =
    let m = g.T.TakesTurns in
    none_heard m.meaning s c.args.threads.now.items f c.args.queue.now c.args.n (sym c.told.ensures.answer ∙ none_of c.told.result c.in_default.not-Some) are
