-- The offsets of the instructions of bodies, read from left to right (Core specification 1.0, section 5.5.13).
use Rattle.std.specs.Prelude.{ℕ, List, Ok, Result}
use Rattle.binary_wire.specs.declared.fault.Refusal.{Refusal}
use Rattle.binary_wire.specs.declared.fault.ReadFault.{ReadFault}
use Rattle.binary_wire.specs.Faults.{offset_of, inside, input}
use Rattle.binary_wire.specs.Reading.{Reading, ◌>>=◌, GivesInMemory, block_at, u32_at, vector_at}
use Rattle.binary_instructions.specs.Reading.{val_type_at}
use Rattle.show_places.specs.declared.bodies.BodyPlaces.{BodyPlaces}
use Rattle.show_places.specs.Places.{places_in}

-- A group of locals: how many, and their type.
unfoldable pub group_at : Reading (Unit {0})
group_at s bytes = do
  count ← u32_at s bytes
  t ← val_type_at s count.1
  Ok (tt, t.1)

-- A body: its size, and contents of that size, of which the places are read.
unfoldable pub body_at : Reading BodyPlaces
body_at s bytes = do
  contents ← block_at s bytes
  groups ← vector_at 0xffff_ffff group_at (inside s contents.1) contents.0
  places ← places_in (inside s contents.1) groups.1
  Ok (record { start = offset_of (inside s contents.1) contents.0; instrs = places.0 }, contents.1)

-- A count, and so many bodies.
abbrev pub bodies_in : List ℕ → Result (List BodyPlaces × List ℕ) Refusal
bodies_in contents = vector_at 0xffff_ffff body_at (input contents) contents

-- What a function answers that reads them, whatever is left behind them.
abbrev pub GivesBodies : List ℕ → Result (List BodyPlaces) ReadFault → Type 0
GivesBodies contents result = (rest : List ℕ) × GivesInMemory (λ bodies. (bodies, rest)) result (bodies_in contents)
