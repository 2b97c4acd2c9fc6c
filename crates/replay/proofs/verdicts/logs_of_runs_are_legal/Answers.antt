use Rattle.replay.proofs.LegalLogs.{logs_of_runs_are_legal}
use Rattle.replay.proofs.verdicts.logs_of_runs_are_legal.Goals as goal

pub returns : goal.returns
returns c = logs_of_runs_are_legal
