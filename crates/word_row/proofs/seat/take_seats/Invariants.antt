use Rattle.std.proofs.Common.{◌≡◌, map}
use Rattle.std.specs.Prelude.{vec_capacity}
use Rattle.types.specs.declared.limits.TheConstants.{SEATS}
use Rattle.shared_memory_on_table.specs.declared.seat.CallerSeat.{CallerSeat}
use Rattle.word_row.specs.declared.seat.WordSeat.{WordSeat}
use Rattle.word_row.proofs.seat.take_seats.Given as goal

abbrev pub invariant-loop-seat : goal.invariant-loop-seat
invariant-loop-seat g l = record {
  same : map (λ (s : WordSeat g.row.B.Denot g.B.Naming). s.caller) l.seats.items ≡ map (λ (s : CallerSeat g.row.B.Denot g.B.Naming). s.caller) l.yielded;
  room : vec_capacity l.seats ≡ SEATS;
}
