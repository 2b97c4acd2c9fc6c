-- How long the names of files are that are shown.
use Rattle.std.specs.Prelude.{◌≤◌, All, List, length}
use Rattle.dwarf_lines.specs.declared.header.Source.{Source}
use Rattle.dwarf_lines.specs.declared.header.TheConstants.{MOST_FILE_NAME}
use Rattle.dwarf_lines.specs.declared.table.Range.{Range}

abbrev pub HasShortName : Source → Type 0
HasShortName source = length source.name.now ≤ MOST_FILE_NAME

abbrev pub ComesOfShort : Range → Type 0
ComesOfShort range = length range.file.now ≤ MOST_FILE_NAME

abbrev pub StayShort : List Range → List Range → Type 0
StayShort old new = All ComesOfShort old → All ComesOfShort new
