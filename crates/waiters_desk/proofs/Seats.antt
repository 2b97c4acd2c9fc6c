-- What calls one after another leave of a seat.
use Rattle.std.proofs.Common.{◌∙◌}
use Rattle.shared_memory.specs.declared.memory.SharedMemory.{Ghosts}
use Rattle.shared_memory.specs.Seats.{SeatStays}

pub stays_on : {M S : Type 0} (m : Ghosts M S) (a b c : S) → SeatStays m a b → SeatStays m b c → SeatStays m a c
stays_on m a b c one two = record {
  same = record { name_is = two.same.name_is ∙ one.same.name_is; right_is = two.same.right_is ∙ one.same.right_is };
  lost_is = two.lost_is ∙ one.lost_is;
}
