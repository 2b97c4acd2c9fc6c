use Rattle.std.proofs.Common.{take}
use Rattle.show_events.specs.Lines.{AddsLines}
use Rattle.show_events.specs.Events.{InTurn, AddsName}
use Rattle.show_events.proofs.write.write_threads.Given as goal

abbrev pub invariant-loop-place : goal.invariant-loop-place
invariant-loop-place g l = record {
  lines : AddsLines l.place (g.W.Write.contents l.initial.out) (g.W.Write.contents l.out);
  which : InTurn AddsName (take l.place l.threads) (g.W.Write.contents l.initial.out) (g.W.Write.contents l.out);
}
