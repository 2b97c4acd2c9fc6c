use Rattle.search_table.specs.Tables.{AreStates}
use Rattle.search_settled.specs.Known.{PutsRows}
use Rattle.search_settled.proofs.states.put_rows.Given as goal

abbrev pub invariant-loop-one : goal.invariant-loop-one
invariant-loop-one g l = record {
  are : AreStates l.states;
  puts : PutsRows g.S.PartialEq.eq g.T.PartialEq.eq l.parts l.fn.states l.states l.at l.yielded l.fn.moves.items l.moves.items;
}
