-- The strategy by which a run is drawn.
use Rattle.std.specs.Prelude.{ℕ, ◌%◌, slice_index_or}
use Rattle.selection.specs.declared.way.Way.{Way}
use Rattle.selection.specs.declared.way.Way.TheVariants as ways
use Rattle.selection.specs.declared.way.TheConstants.{MIX}

-- The strategy of the run of this number: of a mix that of the table at the number's place, else itself.
abbrev pub way_of : Way → ℕ → Way
way_of ways.Mix run = slice_index_or MIX (run % 6) ways.Mix
way_of ways.Random run = ways.Random
way_of (ways.Priorities depth) run = ways.Priorities depth
way_of ways.Spin run = ways.Spin
