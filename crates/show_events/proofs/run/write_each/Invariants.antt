use Rattle.std.proofs.Common.{take}
use Rattle.show_events.specs.Lines.{AddsLines}
use Rattle.show_events.specs.Events.{InTurn}
use Rattle.show_events.specs.Run.{Adds}
use Rattle.show_events.proofs.run.write_each.Given as goal

abbrev pub invariant-loop-place : goal.invariant-loop-place
invariant-loop-place g l = record {
  lines : AddsLines l.place (g.W.Write.contents l.initial.out) (g.W.Write.contents l.out);
  which : InTurn (Adds g.T.PageLine.json) (take l.place l.all) (g.W.Write.contents l.initial.out) (g.W.Write.contents l.out);
}
