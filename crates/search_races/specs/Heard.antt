-- What is known of an entry of which it was heard where its thread stood.
use Rattle.std.specs.Prelude.{Option, Some, None}
use Rattle.interp.specs.declared.place.CodePlace.{CodePlace}
use Rattle.show_rows.specs.declared.rows.Row.{Row}

-- Its place in the code alone.
abbrev pub row_heard : CodePlace → Option Row
row_heard place = Some (record { place = place; caller = None; before = None })
