-- What threads say.
use Rattle.std.specs.Prelude.{List, [], ◌∷◌, codes}
use Rattle.show_said.specs.declared.said.Said.{Said}
use Rattle.show_json.specs.Json.{Json, Field, number, text, is, are_some, object_of}

-- A line: who said it, the line of the record with which it ended, and its text.
abbrev pub said_fields : Said → List Field
said_fields said =
    is (codes "thread") (number said.thread)
    ∷ is (codes "line") (number said.line)
    ∷ is (codes "text") (text said.text)
    ∷ []

abbrev pub said_json : Said → Json
said_json said = object_of (said_fields said)

-- The field of lines, where there is one.
abbrev pub said_field : List Said → Field
said_field lines = are_some (codes "said") said_json lines
