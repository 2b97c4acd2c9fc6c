use Rattle.std.proofs.Common.{All}
use Rattle.dwarf_lines.specs.Names.{ComesOfShort}
use Rattle.dwarf_lines.proofs.table.read_lines.Given as goal

abbrev pub invariant-loop : goal.invariant-loop
invariant-loop l = All ComesOfShort l.ranges.items
