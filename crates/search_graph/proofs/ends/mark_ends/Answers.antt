use Rattle.std.proofs.Common.{subst}
use Rattle.search_graph.specs.Marking.{MarkCanEnd, IsClosed}
use Rattle.search_graph.proofs.Reaching.{ended-can-end, marked-can-end}
use Rattle.search_graph.proofs.ends.mark_ends.Goals as goal

pub again-init : goal.again-init
again-init c = ended-can-end c.args.graph.now.moves.items c.args.ended.now c.args.marks.now c.requires.ended

pub returns : goal.returns
returns c =
    let marks = c.mark_all_back.new.marks in
    let e = c.mark_all_back.ensures in
    marked-can-end c.args.graph.now.moves.items c.args.ended.now marks
    (subst (λ ms. MarkCanEnd ms c.args.ended.now marks) c.as_slice-moves.ensures.value e.ends)
    (subst (λ ms. IsClosed ms marks) c.as_slice-moves.ensures.value (e.closed c.if-not-mark_all_back.true))
