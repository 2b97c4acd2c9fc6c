-- The code that a line has.
use Rattle.std.specs.Prelude.{ℕ, Bool, ◌&&◌, nat_lt, nat_le, List, Contains, map}
use Rattle.dwarf_lines.specs.declared.header.Source.{Source}
use Rattle.dwarf_lines.specs.declared.table.Range.{Range}

-- From its start on, up to its end.
abbrev pub holds : ℕ → Range → Bool
holds offset range = nat_le range.start offset && nat_lt offset range.end

-- The file that has it.
abbrev pub source_of : Range → Source
source_of range = record { directory = range.directory; name = range.file }

abbrev pub IsSourceIn : List Range → Source → Type 0
IsSourceIn ranges = Contains (map source_of ranges)
