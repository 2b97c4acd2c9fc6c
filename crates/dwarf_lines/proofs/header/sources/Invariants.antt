use Rattle.std.proofs.Common.{All}
use Rattle.dwarf_lines.specs.Names.{HasShortName}
use Rattle.dwarf_lines.proofs.header.sources.Given as goal

abbrev pub invariant-loop-file : goal.invariant-loop-file
invariant-loop-file l = All HasShortName l.sources.items
