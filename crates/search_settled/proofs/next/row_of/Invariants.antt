use Rattle.search_table.specs.Tables.{Grows}
use Rattle.search_settled.proofs.Nexting.{RowSoFar}
use Rattle.search_settled.proofs.next.row_of.Given as goal

abbrev pub invariant-loop-thread : goal.invariant-loop-thread
invariant-loop-thread g l = record {
  grows : Grows l.fn.parts l.parts;
  later : Grows l.initial.parts l.parts;
  row : RowSoFar g.T.PartialEq.eq l.parts l.first l.yielded l.row.items;
}
