-- A place in a module, as it is printed of a trap.
use Rattle.std.specs.Prelude.{ℕ, List, ◌++◌, codes, Option, Some, None}
use Rattle.std.specs.Fmt.{decimal}
use Rattle.show_text.specs.Plain.{plain_text}
use Rattle.show_spots.specs.Spots.{spot_text}
use Rattle.show_spots.specs.declared.spot.Spot.{Spot}

-- The file and the line, in parentheses.
abbrev pub line_text : List ℕ → ℕ → List ℕ
line_text file line = codes " (" ++ plain_text file ++ codes ":" ++ decimal line ++ codes ")"

abbrev pub source_text : {S : Type 0} → (S → List ℕ) → Option (S × ℕ) → List ℕ
source_text text None = codes ""
source_text text (Some source) = line_text (text source.0) source.1

-- The function, how far the instruction is behind the start of its body, and the line of source.
abbrev pub site_text : Spot → List ℕ
site_text s = spot_text (record s { source = None; text = None }) ++ source_text (λ file. file.now) s.source
