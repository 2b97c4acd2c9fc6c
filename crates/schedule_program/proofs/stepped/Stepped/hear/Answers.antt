use Rattle.std.proofs.Common.{subst}
use Rattle.schedule.specs.System.{Want.Awaits}
use Rattle.schedule_program.specs.Threads.{StandsBy}
use Rattle.schedule_program.proofs.Turning.{stands_still, here_hears}
use Rattle.schedule_program.proofs.stepped.Stepped.hear.Goals as goal

pub returns-in-Runs : goal.returns-in-Runs
returns-in-Runs g c s t thread awaits =
    let p = s.program in
    let by = subst (λ z. StandsBy g.T.TakesTurns.meaning s c.args.self.now.thread z t) c.in-Runs.is thread.stands_by in
    c.give.ensures s t thread.alike (stands_still p t c.in-Runs.field-0
    (g.T.TakesTurns.meaning c.args.self.now.thread).stands Awaits awaits (λ bad. absurd (cc bad)) by.2)
    (here_hears p t c.args.answer by.0) (by.1, awaits)
