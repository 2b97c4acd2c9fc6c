use Rattle.live_locals.proofs.Both.{itself, back, in_turn}
use Rattle.live_locals.proofs.Going.{alike}
use Rattle.live_locals.proofs.States.{states}
use Rattle.live_locals.proofs.laws.alike_threads_go_alike.Goals as goal

pub returns : goal.returns
returns c = record { configs = alike; states = states; equivalence = record { itself = itself; back = back; in_turn = in_turn } }
