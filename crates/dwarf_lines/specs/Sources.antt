-- Files of source, by lines.
use Rattle.std.specs.Prelude.{ℕ, ◌≡◌, ◌-◌, nat_le, if◌then◌else◌, Bool, List, map, find, Option, Some, None, option_and_then, string_bytes}
use Rattle.std.specs.Borrow.{Bor}
use Rattle.std.specs.List.{slice_get}
use Rattle.std.specs.Str.{trim}
use Rattle.dwarf_lines.specs.contracts.header.SourcePartialEq.TheImpl as equal
use Rattle.dwarf_lines.specs.declared.table.Range.{Range}
use Rattle.dwarf_lines.specs.Lines.{source_of}
use Rattle.dwarf_lines.specs.declared.sources.SourceFile.{SourceFile}
use Rattle.dwarf_lines.specs.declared.sources.SourceLines.{SourceLines}

-- What stands in a line, without the space around it.
abbrev pub IsTextOf : Option (Bor (List ℕ)) → Option (Bor (List ℕ)) → Type 0
IsTextOf (Some line) (Some text) = text.now ≡ trim line.now
IsTextOf None None = Unit {0}
IsTextOf line text = ⊥

-- What a file is called.
abbrev pub names_of : SourceFile → List ℕ × List ℕ
names_of file = (string_bytes file.directory, string_bytes file.name)

abbrev pub called : SourceLines → List ℕ × List ℕ
called file = (file.source.directory.now, file.source.name.now)

-- The files are called as these, in order.
abbrev pub AreOf : List SourceFile → List SourceLines → Type 0
AreOf files all = map names_of files ≡ map called all

-- The file of a range of code.
abbrev pub is_of : Range → SourceLines → Bool
is_of range file = equal.eq-value.it file.source (source_of range)

abbrev pub in_file : ℕ → SourceLines → Option (Bor (List ℕ))
in_file line file = slice_get file.lines.items (line - 1)

-- Its line in the first of these files that is its own; lines are counted from 1.
abbrev pub line_in : List SourceLines → Range → Option (Bor (List ℕ))
line_in files range = if nat_le 1 range.line then option_and_then (in_file range.line) (find (is_of range) files) else None
