use Rattle.std.proofs.Common.{◌≡◌, find, drop}
use Rattle.dwarf_lines.specs.Sources.{is_of}
use Rattle.dwarf_lines.proofs.sources.Sources.file_of.Given as goal

abbrev pub invariant-loop-file : goal.invariant-loop-file
invariant-loop-file l = find (is_of l.range) (drop l.file-index l.self.files.items) ≡ find (is_of l.range) l.self.files.items
