use Rattle.std.proofs.Common.{refl}
use Rattle.report_command.proofs.command_line.replay_job.Goals as goal

pub returns-clause-asks : goal.returns-clause-asks
returns-clause-asks c = (refl, record { file_is = c.in_ok-file.ensures; saved_is = c.in_ok-saved.ensures; look_is = c.in_ok-look.ensures.asks })
