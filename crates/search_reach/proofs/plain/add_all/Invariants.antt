use Rattle.std.proofs.Common.{◌<◌, ◌^◌}
use Rattle.indexmap.specs.IndexSet.{index_set_len}
use Rattle.search_reach.specs.Explored.{Gains, Notes}
use Rattle.search_reach.proofs.plain.add_all.Given as goal

abbrev pub invariant-loop-next : goal.invariant-loop-next
invariant-loop-next g l = record {
  gains : Gains l.fn.met.keys l.yielded l.met.keys;
  notes : index_set_len l.met < 2 ^ 32 → Notes g.S.PartialEq.eq l.met.keys l.at l.yielded l.fn.moves.items l.moves.items;
}
