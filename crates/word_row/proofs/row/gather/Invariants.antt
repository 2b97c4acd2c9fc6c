use Rattle.std.proofs.Common.{◌≡◌, List}
use Rattle.std.specs.Prelude.{All}
use Rattle.types.specs.declared.event.Entry.{Entry}
use Rattle.shared_memory_on_table.specs.Callers.{GoesOn, AllGoOn}
use Rattle.word_row.specs.declared.seat.WordSeat.{WordSeat}
use Rattle.word_row.proofs.row.gather.Given as goal

abbrev pub invariant-loop-seat : goal.invariant-loop-seat
invariant-loop-seat g l = record {
  here : l.host.table_id ≡ g.B.Naming.table;
  all : (log : List Entry) → AllGoOn l.host.me.0.callers log → All (λ (s : WordSeat g.row.B.Denot g.B.Naming). GoesOn s.caller log) l.yielded;
}
