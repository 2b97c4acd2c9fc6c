-- A search of drawn runs.
use Rattle.std.specs.Prelude.{ℕ, Bool, true, false, List, [], ◌∷◌, codes}
use Rattle.report_lines.specs.Drawn.{way_text}
use Rattle.search_endings.specs.Endings.{Ending}
use Rattle.report_json.specs.declared.drawn.MetEnding.{MetEnding}
use Rattle.report_json.specs.declared.drawn.Coverage.{Coverage}
use Rattle.report_json.specs.declared.drawn.DrawnEnd.{DrawnEnd}
use Rattle.report_json.specs.declared.drawn.DrawnEnd.TheVariants as ends
use Rattle.report_json.specs.declared.drawn.DrawnRuns.{DrawnRuns}
use Rattle.report_json.specs.declared.drawn.DrawnObject.{DrawnObject}
use Rattle.show_json.specs.Json.{Json, Field, number, text, is, list_of, object_of}
use Rattle.report_json.specs.Ends.{outcomes_json, bytes_field}
use Rattle.report_json.specs.Found.{found_json}
use Rattle.report_json.specs.Raced.{words_field, race_field}

-- Whether there are bytes.
abbrev pub has_some : List ℕ → Bool
has_some [] = false
has_some (b ∷ bytes) = true

-- An ending: how its threads ended, the page count, and the bytes that are looked at, if there are some; behind other
-- fields.
abbrev pub ending_fields : Ending → List Field
ending_fields ending =
    is (codes "threads") (outcomes_json ending.outcomes)
    ∷ is (codes "pages") (number ending.pages)
    ∷ bytes_field (has_some ending.bytes) ending.bytes
    ∷ []

abbrev pub ending_json : Ending → Json
ending_json ending = object_of (ending_fields ending)

-- An ending of the table: in how many runs it was met, in which first, and by which strategy that was drawn.
abbrev pub met_fields : MetEnding → List Field
met_fields met =
    is (codes "times") (number met.times)
    ∷ is (codes "first") (number met.first)
    ∷ is (codes "strategy") (text (way_text met.way))
    ∷ ending_fields met.ending.now

abbrev pub met_json : MetEnding → Json
met_json met = object_of (met_fields met)

-- How many runs were made of as many as were asked for, and how many were cut at so many entries.
abbrev pub runs_fields : DrawnRuns → List Field
runs_fields runs =
    is (codes "made") (number runs.made)
    ∷ is (codes "asked") (number runs.asked)
    ∷ is (codes "cut") (number runs.cut)
    ∷ is (codes "limit") (number runs.limit)
    ∷ []

abbrev pub runs_json : DrawnRuns → Json
runs_json runs = object_of (runs_fields runs)

-- Of the endings, how many were met first in the last half of the runs, and how many in one run alone.
abbrev pub coverage_json : Coverage → Json
coverage_json coverage =
    object_of (is (codes "late") (number coverage.late) ∷ is (codes "singles") (number coverage.singles) ∷ [])

-- Why it ended: one was found that is looked for, it was told to end, or all were made.
abbrev pub verdict_words : DrawnEnd → List ℕ
verdict_words (ends.Found found) = codes "found"
verdict_words (ends.Told coverage) = codes "told"
verdict_words (ends.AllMade coverage) = codes "all made"

-- What was found, or else the coverage.
abbrev pub end_field : DrawnEnd → Field
end_field (ends.Found found) = is (codes "found") (found_json found)
end_field (ends.Told coverage) = is (codes "coverage") (coverage_json coverage)
end_field (ends.AllMade coverage) = is (codes "coverage") (coverage_json coverage)

abbrev pub drawn_fields : DrawnObject → List Field
drawn_fields drawn =
    is (codes "status") (number drawn.status)
    ∷ is (codes "verdict") (text (verdict_words drawn.halt))
    ∷ is (codes "runs") (runs_json drawn.runs)
    ∷ is (codes "endings") (list_of met_json drawn.met.now)
    ∷ words_field drawn.races
    ∷ race_field drawn.races
    ∷ end_field drawn.halt
    ∷ []

abbrev pub drawn_json : DrawnObject → Json
drawn_json drawn = object_of (drawn_fields drawn)
