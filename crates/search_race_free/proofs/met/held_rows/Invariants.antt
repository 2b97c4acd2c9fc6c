use Rattle.search_table.specs.Tables.{Grows}
use Rattle.search_race_free.specs.Met.{AreHeldRows}
use Rattle.search_race_free.proofs.met.held_rows.Given as goal

abbrev pub invariant-loop-one : goal.invariant-loop-one
invariant-loop-one g l = record {
  grows : Grows l.fn.parts l.parts;
  rows : AreHeldRows g.S.PartialEq.eq g.T.PartialEq.eq l.parts l.yielded l.rows.items;
}
