use Rattle.std.proofs.Common.{subst}
use Rattle.interp_trait.specs.Turns.{own_turn_if, wants_of}
use Rattle.interp_trait.specs.declared.turn.Given.TheVariants.{Nothing}
use Rattle.schedule_program.specs.Threads.{StandsBy}
use Rattle.schedule_machine.proofs.Turning.{ended_says}
use Rattle.schedule_program.proofs.Turning.{here_own}
use Rattle.schedule_program.proofs.stepped.Stepped.go.Goals as goal

pub goes_on-requires : goal.goes_on-requires
goes_on-requires g c =
    let r = c.requires in
    let p = (r.0).program in
    let t = r.1 in
    let by = subst (λ z. StandsBy g.T.TakesTurns.meaning r.0 c.args.self.now.thread z t) c.in-Runs.is (r.2).stands_by in
    (own_turn_if p t (wants_of p t), by.2.after, here_own p t (wants_of p t) by.0, ended_says p t Nothing c.in-Runs.turn by.2.answer)

pub returns-in-Runs : goal.returns-in-Runs
returns-in-Runs g c s t thread none =
    let p = s.program in
    let by = subst (λ z. StandsBy g.T.TakesTurns.meaning s c.args.self.now.thread z t) c.in-Runs.is thread.stands_by in
    c.goes_on.ensures s (own_turn_if p t (wants_of p t)) thread.alike by.2.after (here_own p t (wants_of p t) by.0)
    (ended_says p t Nothing c.in-Runs.turn by.2.answer)
