use Rattle.schedule.specs.Scheduled.{after_mark}
use Rattle.schedule_machine.specs.Runs.{system_by}
use Rattle.schedule_program.specs.Runs.{kind_of}
use Rattle.test_schedules.proofs.scheduling.step.Goals as goal

pub returns : goal.returns
returns g c =
    let r = c.requires in
    (r.0, after_mark (system_by r.0) r.1 c.args.thread (kind_of c.args.kind), c.step-entry.ensures.state r.0 r.1 r.2)

pub returns-in_err-push : goal.returns-in_err-push
returns-in_err-push g c =
    let r = c.requires in
    (r.0, after_mark (system_by r.0) r.1 c.args.thread (kind_of c.args.kind), c.step-entry.ensures.state r.0 r.1 r.2)
