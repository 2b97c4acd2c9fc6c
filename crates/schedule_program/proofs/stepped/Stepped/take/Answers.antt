use Rattle.std.proofs.Common.{sym, subst}
use Rattle.schedule.specs.System.{Want.Calls}
use Rattle.interp_trait.specs.Turns.{IsHere}
use Rattle.schedule_program.specs.Threads.{StandsBy, IsThread}
use Rattle.schedule_program.proofs.Turning.{stands_still, here_takes, made_reply}
use Rattle.schedule_program.proofs.stepped.Stepped.take.Goals as goal

pub returns-in-Runs : goal.returns-in-Runs
returns-in-Runs g c s t thread calls =
    let p = s.program in
    let m = g.T.TakesTurns in
    let by = subst (λ z. StandsBy m.meaning s c.args.self.now.thread z t) c.in-Runs.is thread.stands_by in
    let same = made_reply p t c.args.reply c.requires.made in
    subst (λ u. IsThread m.meaning s c.give.new.self u) same
    (c.give.ensures s t thread.alike (stands_still p t c.in-Runs.field-0 (m.meaning c.args.self.now.thread).stands
    (Calls calls.0) calls.1 (λ bad. absurd (cc bad)) by.2)
    (subst IsHere (sym same) (here_takes p t c.args.reply by.0 by.1)) (by.1, calls.0, calls.1))
