use Rattle.validate_bodies.proofs.Reading.{same_done}
use Rattle.validate_bodies.proofs.laws.blocks_are_read_off_the_code.Goals as goal

pub returns : goal.returns
returns _ front d e f g = same_done front d e f g
