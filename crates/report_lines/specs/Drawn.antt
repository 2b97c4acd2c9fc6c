-- The lines of a search of drawn runs: its table, and what it says of runs that weren't made.
use Rattle.std.specs.Prelude.{ℕ, ◌==◌, if◌then◌else◌, List, [], ◌++◌, codes}
use Rattle.std.specs.Fmt.{decimal}
use Rattle.search_endings.specs.Endings.{Ending}
use Rattle.selection.specs.declared.way.Way.{Way}
use Rattle.selection.specs.declared.way.Way.TheVariants as ways
use Rattle.report_lines.specs.declared.drawn.Often.{Often}
use Rattle.report_lines.specs.Complete.{form_of, endings_text}
use Rattle.report_lines.specs.Endings.{ending_line}

-- A strategy as on the command line.
abbrev pub way_text : Way → List ℕ
way_text ways.Mix = codes "mix"
way_text ways.Random = codes "random"
way_text (ways.Priorities depth) = codes "pct:" ++ decimal depth
way_text ways.Spin = codes "spin"

-- The line of an ending, whose first run was drawn by this strategy.
abbrev pub often_text : Often → List ℕ
often_text often =
    decimal often.times ++ codes " of " ++ decimal often.runs ++ codes ", first in run " ++ decimal often.first
    ++ codes " by "

abbrev pub met_line : Often → Way → Ending → List ℕ
met_line often way e = often_text often ++ way_text way ++ codes ": " ++ ending_line e

-- So many runs were cut at so many entries, where some were.
abbrev pub cut_line : ℕ → ℕ → List ℕ
cut_line cut limit =
    if cut == 0 then [] else
    decimal cut ++ codes " " ++ form_of cut (codes "run was") (codes "runs were") ++ codes " cut at " ++ decimal limit
    ++ codes " entries\n"

-- So many runs were made of as many as were asked for, when the search was told to end.
abbrev pub stopped_line : ℕ → ℕ → List ℕ
stopped_line made runs = codes "told to end: " ++ decimal made ++ codes " of " ++ decimal runs ++ codes " runs\n"

-- Of endings that were met in one run alone, so many in so many runs, the share is the chance that one more run ends as
-- none did (Good and Turing); where there is none it is below that of one.
abbrev pub chance_text : ℕ → ℕ → List ℕ
chance_text singles runs =
    (if singles == 0 then codes "below 1" else codes "about " ++ decimal singles) ++ codes " in " ++ decimal runs ++ codes "\n"

-- So many endings, so many of them new in the last half of the runs; and that chance.
abbrev pub late_text : ℕ → List ℕ
late_text late =
    codes ", " ++ decimal late ++ codes " new in the last half of the runs; chance of another one in a further run: "

abbrev pub unseen_line : ℕ → ℕ → ℕ → ℕ → List ℕ
unseen_line endings late singles runs = endings_text endings ++ late_text late ++ chance_text singles runs
