use Rattle.report_jobs.proofs.Silent.{unfit_of_text}
use Rattle.report_jobs.proofs.replaying.replay_record.Goals as goal

pub returns-in-Ok-clause-unfit : goal.returns-in-Ok-clause-unfit
returns-in-Ok-clause-unfit g c =
    unfit_of_text c.args.loaded.valid.now.parts c.in-Ok.record c.args.saved.now c.in-Ok.ensures.ok.1 c.print_replay-done.result
    c.print_replay-done.ensures.unfit
