use Rattle.std.proofs.Common.{All}
use Rattle.dwarf_lines.specs.Names.{ComesOfShort, HasShortName}
use Rattle.dwarf_lines.proofs.header.LineHeader.run.Given as goal

abbrev pub invariant-loop : goal.invariant-loop
invariant-loop l = All HasShortName l.self.files.items → All ComesOfShort l.initial.ranges.items → All ComesOfShort l.ranges.items
