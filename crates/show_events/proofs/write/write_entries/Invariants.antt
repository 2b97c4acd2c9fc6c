use Rattle.std.proofs.Common.{take}
use Rattle.show_events.specs.Lines.{AddsLines}
use Rattle.show_events.specs.Events.{InTurn, AddsEvent}
use Rattle.show_events.proofs.write.write_entries.Given as goal

abbrev pub invariant-loop-place : goal.invariant-loop-place
invariant-loop-place g l = record {
  lines : AddsLines l.place (g.W.Write.contents l.initial.out) (g.W.Write.contents l.out);
  which : InTurn (AddsEvent l.shown l.story) (take l.place l.chosen) (g.W.Write.contents l.initial.out)
      (g.W.Write.contents l.out);
}
