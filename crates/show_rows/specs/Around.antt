-- Lines of source around a place.
use Rattle.std.specs.Prelude.{◌-◌, List, Option, Some, None}
use Rattle.dwarf_lines.specs.declared.table.Range.{Range}
use Rattle.dwarf_lines.specs.declared.sources.SourceLines.{SourceLines}
use Rattle.dwarf_lines.specs.Sources.{line_in}
use Rattle.show_spots.specs.Around.{above}
use Rattle.show_spots.specs.declared.around.Around.{Around}

-- The lines around this one of the file of a range of code.
abbrev pub lines_around : List SourceLines → Option Range → Around
lines_around files None = record { line = 0; before = None; here = None; behind = None }
lines_around files (Some range) = record {
  line = range.line;
  before = line_in files (record range { line = range.line - 1 });
  here = line_in files range;
  behind = line_in files (record range { line = above range.line });
}
