use Rattle.std.specs.Fmt.{HasWritten, IsPlainFormatter}
use Rattle.show_text.specs.Rows.{blanks}
use Rattle.show_text.proofs.sheet.BlanksDisplay.fmt.Given as goal

abbrev pub invariant-loop : goal.invariant-loop
invariant-loop g l = IsPlainFormatter l.initial.f → HasWritten g.W.Write.write_str_gives l.initial.f (blanks l.counter) l.f
