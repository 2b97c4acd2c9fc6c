use Rattle.std.proofs.Common.{ℕ, take}
use Rattle.std.specs.List.{enumerate_from}
use Rattle.show_events.specs.Lines.{AddsLines}
use Rattle.show_events.specs.Events.{InTurn, AddsArrow}
use Rattle.show_events.proofs.write.write_links.Given as goal

abbrev pub invariant-loop-number : goal.invariant-loop-number
invariant-loop-number g l = record {
  lines : (n : ℕ) × AddsLines n (g.W.Write.contents l.initial.out) (g.W.Write.contents l.out);
  which : InTurn (AddsArrow l.among) (take l.number (enumerate_from 0 l.links)) (g.W.Write.contents l.initial.out)
      (g.W.Write.contents l.out);
}
