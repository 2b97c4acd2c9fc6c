use Rattle.schedule_runs.proofs.Later.{beginnings_stay}
use Rattle.schedule_runs.proofs.beginnings_stay.Goals as goal

pub returns : goal.returns
returns c = beginnings_stay
