use Rattle.std.proofs.Common.{refl, ◌∙◌, subst}
use Rattle.schedule.specs.Machine.{Thread.Runs}
use Rattle.interp_trait.specs.Turns.{spawn_types, spawned_in}
use Rattle.schedule_program.proofs.Turning.{ready}
use Rattle.schedule_program.proofs.stepped.Stepped.start.Goals as goal

pub returns : goal.returns
returns g c s thread =
    let m = g.T.TakesTurns in
    let begins = ready m.meaning s c.args.self.now.thread c.args.self.now.stage thread.stands_by in
    let budget = c.set_args.ensures.stays.fuel ∙ thread.alike.fuel_is in
    c.goes_on.ensures s (Runs (spawned_in s.worker c.args.id c.args.arg) s.fuel)
    (record { program_is = c.set_args.ensures.stays.program ∙ thread.alike.program_is; fuel_is = budget })
    (subst (λ n. (m.meaning c.set_args.new.self).stands (Runs (spawned_in s.worker c.args.id c.args.arg) n)) budget
    (c.set_args.ensures.stands spawn_types s.worker begins)) tt refl
