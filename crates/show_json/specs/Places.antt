-- Places in a module.
use Rattle.std.specs.Prelude.{false, List, [], ◌∷◌, ◌++◌, codes, decimal}
use Rattle.std.specs.Fmt.{digits}
use Rattle.show_places.specs.declared.names.FunctionName.{FunctionName}
use Rattle.show_places.specs.declared.names.FunctionName.TheVariants.{Named, Exported, Numbered}
use Rattle.show_json.specs.declared.places.SourceObject.{SourceObject}
use Rattle.show_json.specs.declared.places.Offset.{Offset}
use Rattle.show_json.specs.declared.places.PlaceObject.{PlaceObject}
use Rattle.show_json.specs.Json.{Json, Field, text, is, is_given, object_of}

-- A function by its name, or by its index.
abbrev pub function_json : FunctionName → Json
function_json (Named name) = text name.now
function_json (Exported name) = text name.now
function_json (Numbered index) = text (codes "func " ++ decimal index)

-- How far behind the start of its function's body, in base 16.
abbrev pub offset_json : Offset → Json
offset_json offset = text (codes "0x" ++ digits 16 false offset.0)

-- The file and its line.
abbrev pub source_json : SourceObject → Json
source_json source = text (source.file.now ++ codes ":" ++ decimal source.line)

abbrev pub place_fields : PlaceObject → List Field
place_fields place =
    is (codes "function") (function_json place.function)
    ∷ is_given (codes "offset") offset_json place.offset
    ∷ is_given (codes "source") source_json place.source
    ∷ []

abbrev pub place_json : PlaceObject → Json
place_json place = object_of (place_fields place)
