use Rattle.std.proofs.Common.{sym, ◌∙◌, ap, subst}
use Rattle.schedule.specs.Scheduled.{after_mark, entries_at}
use Rattle.schedule_machine.specs.Runs.{system_by}
use Rattle.schedule_program.specs.Runs.{IsAt, as_entries, kind_of}
use Rattle.schedule_program.proofs.stepping.Machine.step.Goals as goal

pub returns-in-Turn-clause-state : goal.returns-in-Turn-clause-state
returns-in-Turn-clause-state g c s w at =
    let m = g.T.TakesTurns in
    subst (λ k. IsAt m.meaning s c.turn.new.self (after_mark (system_by s) w c.args.mark.thread (kind_of k))) (sym c.in-Turn.is) (c.turn.ensures.state s w at)

pub returns-in-Turn-clause-entry : goal.returns-in-Turn-clause-entry
returns-in-Turn-clause-entry g c s w at =
    c.turn.ensures.entry s w at ∙ ap (λ k. as_entries (entries_at (system_by s) w c.args.mark.thread (kind_of k))) (sym c.in-Turn.is)

pub returns-in-Loses-clause-state : goal.returns-in-Loses-clause-state
returns-in-Loses-clause-state g c s w at =
    let m = g.T.TakesTurns in
    subst (λ k. IsAt m.meaning s c.lose.new.self (after_mark (system_by s) w c.args.mark.thread (kind_of k))) (sym c.in-Loses.is) (c.lose.ensures s w at)

pub returns-in-Fills-clause-state : goal.returns-in-Fills-clause-state
returns-in-Fills-clause-state g c s w at =
    let m = g.T.TakesTurns in
    subst (λ k. IsAt m.meaning s c.fill.new.self (after_mark (system_by s) w c.args.mark.thread (kind_of k))) (sym c.in-Fills.is) (c.fill.ensures s w at)
