use Rattle.std.proofs.Common.{◌≡◌}
use Rattle.std.specs.Prelude.{All}
use Rattle.shared_memory_on_table.specs.declared.seat.CallerSeat.{CallerSeat}
use Rattle.locked_recorder.specs.Promises.{Begins}
use Rattle.locked_recorder.proofs.keeper.check_all.Given as goal

abbrev pub invariant-loop-seat : goal.invariant-loop-seat
invariant-loop-seat g l = record {
  begins : All (λ (s : CallerSeat g.row.B.Denot g.B.Naming). Begins s.caller l.initial.keeper) l.yielded;
  same : l.keeper ≡ l.initial.keeper;
}
