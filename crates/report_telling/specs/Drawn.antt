-- What is said of a table of drawn runs.
use Rattle.std.specs.Prelude.{ℕ, ◌-◌, ◌/◌, ◌==◌, leb, if◌then◌else◌, Bool, true, false, List, [], ◌++◌, length}
use Rattle.std.specs.Prelude.{count_by, sum_by}
use Rattle.std.specs.List.{flat_map, list_any}
use Rattle.types.specs.declared.outcome.Outcome.{Outcome}
use Rattle.types.specs.declared.outcome.Outcome.TheVariants as outcomes
use Rattle.types.specs.declared.outcome.Stop.TheVariants as stops
use Rattle.search_endings.specs.Endings.{Ending}
use Rattle.selection.specs.declared.sought.Sought.{Sought}
use Rattle.selection.specs.Ways.{way_of}
use Rattle.search_finds.specs.declared.met.Met.{Met}
use Rattle.search_finds.specs.declared.met.EndingTable.{EndingTable}
use Rattle.report_json.specs.declared.drawn.Coverage.{Coverage}
use Rattle.report_lines.specs.Drawn.{met_line, stopped_line, unseen_line}

-- The lines of the table: of each ending how often it was met in how many runs, in which first and how that was drawn.
abbrev pub table_line : Sought → ℕ → Met → List ℕ
table_line s runs met =
    met_line (record { times = met.times; runs = runs; first = met.first }) (way_of s.way met.first) met.ending

abbrev pub table_lines : Sought → EndingTable → List ℕ
table_lines s table = flat_map (table_line s table.runs) table.met.items

-- A thread found the log full; and a run that ended so was cut. So many runs of a table were.
abbrev pub found_it_full : Outcome → Bool
found_it_full (outcomes.Done result) = false
found_it_full (outcomes.Trap t) = false
found_it_full (outcomes.Stop stops.OutOfFuel) = false
found_it_full (outcomes.Stop stops.AsleepForGood) = false
found_it_full (outcomes.Stop stops.RecordFull) = true

abbrev pub is_cut : Ending → Bool
is_cut e = list_any found_it_full e.outcomes

abbrev pub runs_if_cut : Met → ℕ
runs_if_cut m = if is_cut m.ending then m.times else 0

abbrev pub cut_in : EndingTable → ℕ
cut_in table = sum_by runs_if_cut table.met.items

-- So many endings were met in one run alone; and in so many the first run was one of the last half.
abbrev pub singles_in : EndingTable → ℕ
singles_in table = count_by (λ m. m.times == 1) table.met.items

abbrev pub late_in : Sought → EndingTable → ℕ
late_in s table = count_by (λ m. leb (table.runs / 2) (m.first - s.from)) table.met.items

abbrev pub coverage_of : Sought → EndingTable → Coverage
coverage_of s table = record { late = late_in s table; singles = singles_in table }

-- What is unseen, where some runs were made.
abbrev pub unseen_text : Sought → EndingTable → List ℕ
unseen_text s table =
    if table.runs == 0 then [] else
    unseen_line (length table.met.items) (late_in s table) (singles_in table) table.runs

-- What stands behind a table where nothing was found: that the search was told to end, where it was, and what is
-- unseen.
abbrev pub behind_text : Bool → Sought → EndingTable → List ℕ
behind_text is_told s table = (if is_told then stopped_line table.runs s.runs else []) ++ unseen_text s table
