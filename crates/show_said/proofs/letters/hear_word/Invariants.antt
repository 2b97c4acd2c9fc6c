use Rattle.std.proofs.Common.{take}
use Rattle.std.specs.List.{filter}
use Rattle.show_said.specs.Lines.{is_letter}
use Rattle.show_said.specs.Hears.{Hears}
use Rattle.show_said.proofs.letters.hear_word.Given as goal

abbrev pub invariant-loop-byte : goal.invariant-loop-byte
invariant-loop-byte l =
    Hears l.voice (filter is_letter (take l.byte-index l.byte-items)) l.initial.line.items l.initial.said.items l.line.items l.said.items
