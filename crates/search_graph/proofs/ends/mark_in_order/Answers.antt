use Rattle.std.proofs.Common.{sym, subst, ap, arith}
use Rattle.search_graph.specs.Marking.{MarkCanEnd, unmarked_in}
use Rattle.search_graph.proofs.Reaching.{back-can-end}
use Rattle.search_graph.proofs.ends.mark_in_order.Goals as goal
use Rattle.search_graph.proofs.ends.mark_in_order.Goals.{then-k-moves, else-k-moves}

pub loop-k-preserved : goal.loop-k-preserved
loop-k-preserved c = record {
  ends = elim c.if-k-moves.branch [
    | then-k-moves w ↦ subst (MarkCanEnd c.args.moves.now c.args.ended.now) (sym w.marks-is)
        (back-can-end c.args.moves.now c.args.ended.now c.loop-k.marks w.mark_back-is_new.new.marks _ w.if-k-moves.true
        w.mark_back-is_new.ensures.kept w.mark_back-is_new.ensures.marked c.loop-k.invariant.ends)
    | else-k-moves w ↦ subst (MarkCanEnd c.args.moves.now c.args.ended.now) (sym w.marks-is) c.loop-k.invariant.ends
  ];
  fewer = elim c.if-k-moves.branch [
    | then-k-moves w ↦ omega (arith, ap unmarked_in w.marks-is, w.mark_back-is_new.ensures.most, c.loop-k.invariant.fewer)
    | else-k-moves w ↦ omega (arith, ap unmarked_in w.marks-is, c.loop-k.invariant.fewer)
  ];
}
