use Rattle.std.proofs.Common.{take}
use Rattle.std.specs.Io.KnownBytes.{Appends}
use Rattle.replay_forms.specs.Texts.{pieces}
use Rattle.replay_forms.proofs.print.write_items.Given as goal

abbrev pub invariant-loop-place : goal.invariant-loop-place
invariant-loop-place g l = Appends (g.W.Write.contents l.initial.writer) (g.W.Write.contents l.writer) (pieces g.T.Printed.piece 0 (take l.place l.items))
