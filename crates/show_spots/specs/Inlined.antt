-- A place whose function was put in the place of its call, as text.
use Rattle.std.specs.Prelude.{ℕ, if◌then◌else◌, List, [], ◌++◌, codes}
use Rattle.std.specs.List.{slice_get}
use Rattle.show_text.specs.Plain.{plain_text}
use Rattle.show_spots.specs.declared.spot.Spot.{Spot}
use Rattle.show_spots.specs.Spots.{behind_text, is_underscore, source_text}

-- The function with the line of the place, and what stands there.
abbrev pub placed_text : Spot → List ℕ → List ℕ
placed_text s function = plain_text function ++ (source_text (λ file. file.now) s.source ++ behind_text s.text)

-- And the calls that lead there.
abbrev pub inlined_text : Spot → List ℕ → List ℕ → List ℕ
inlined_text s function calls = placed_text s function ++ plain_text calls

-- The place of a call. A function of C's implementation isn't told.
abbrev pub called_text : Spot → List ℕ → List ℕ
called_text s function = if is_underscore (slice_get function 0) then [] else codes " < " ++ placed_text s function

abbrev pub inlined_call_text : Spot → List ℕ → List ℕ → List ℕ
inlined_call_text s function calls = called_text s function ++ plain_text calls
