use Rattle.std.proofs.Common.{take}
use Rattle.selection.proofs.Cutting.{AreCut}
use Rattle.selection.proofs.spans.Spans.apart.Given as goal

abbrev pub invariant-loop-span : goal.invariant-loop-span
invariant-loop-span l = AreCut l.spans.items (take l.span-index l.sorted) l.next
