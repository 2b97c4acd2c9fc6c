use Rattle.search_graph.specs.Marking.{MarkCanEnd, unmarked_in}
use Rattle.search_graph.proofs.ends.mark_ends.Given as goal

abbrev pub invariant-again : goal.invariant-again
invariant-again l = MarkCanEnd l.graph.moves.items l.ended l.marks

abbrev pub decreases-again : goal.decreases-again
decreases-again l = unmarked_in l.marks
