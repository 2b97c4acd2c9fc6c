-- What a search found.
use Rattle.std.specs.Prelude.{List, [], ◌∷◌, codes}
use Rattle.report_json.specs.declared.found.FoundAs.{FoundAs}
use Rattle.report_json.specs.declared.found.FoundAs.TheVariants.{Run, Ending, NoEndAfter, ForEverAfter}
use Rattle.report_json.specs.declared.found.RunSize.{RunSize}
use Rattle.report_json.specs.declared.found.Shrunk.{Shrunk}
use Rattle.report_json.specs.declared.found.FoundObject.{FoundObject}
use Rattle.show_json.specs.Json.{Json, Field, number, is, is_given, object_of}
use Rattle.report_json.specs.Ends.{run_json}

-- As what: the run of a number, the ending of a number in the list, from 1 on, a run that comes after so many entries
-- to where none ends, or one that goes round for ever from there on.
abbrev pub found_as : FoundAs → Field
found_as (Run n) = is (codes "run") (number n)
found_as (Ending n) = is (codes "ending") (number n)
found_as (NoEndAfter n) = is (codes "no_end_after") (number n)
found_as (ForEverAfter n) = is (codes "for_ever_after") (number n)

abbrev pub size_json : RunSize → Json
size_json size =
    object_of (is (codes "entries") (number size.entries) ∷ is (codes "switches") (number size.switches) ∷ [])

-- How large the run was, and how large the one is that took its place.
abbrev pub shrunk_json : Shrunk → Json
shrunk_json shrunk =
    object_of (is (codes "before") (size_json shrunk.before) ∷ is (codes "after") (size_json shrunk.after) ∷ [])

abbrev pub found_fields : FoundObject → List Field
found_fields found =
    found_as found.found_as
    ∷ is_given (codes "shrunk") shrunk_json found.shrunk
    ∷ is_given (codes "end") run_json found.run
    ∷ []

abbrev pub found_json : FoundObject → Json
found_json found = object_of (found_fields found)
