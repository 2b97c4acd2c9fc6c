use Rattle.std.proofs.Common.{take}
use Rattle.dwarf_lines.specs.Sources.{AreOf}
use Rattle.dwarf_lines.proofs.sources.Sources.new.Given as goal

abbrev pub invariant-loop-file : goal.invariant-loop-file
invariant-loop-file l = AreOf (take l.file-index l.files) l.all.items
