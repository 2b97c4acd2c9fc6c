use Rattle.shared_memory_sequential.proofs.Lanes.{written_here}
use Rattle.shared_memory_sequential.proofs.laws.lane_of_with_lane.Goals as goal

pub returns : goal.returns
returns c = written_here
