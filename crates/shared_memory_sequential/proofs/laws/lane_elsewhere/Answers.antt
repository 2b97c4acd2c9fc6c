use Rattle.shared_memory_sequential.proofs.Lanes.{written_elsewhere}
use Rattle.shared_memory_sequential.proofs.laws.lane_elsewhere.Goals as goal

pub returns : goal.returns
returns c = λ word addr width value written other other_width within other_within apart is. written_elsewhere word addr
    width value written other other_width within apart is
