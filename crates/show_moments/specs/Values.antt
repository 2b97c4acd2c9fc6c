-- The values of a frame.
use Rattle.std.specs.Prelude.{ℕ, ℤ, pos, negsuc, ◌+◌, ◌-◌, ◌/◌, ◌%◌, ◌^◌, nat_le, nat_lt, Bool, true, false, if◌then◌else◌}
use Rattle.std.specs.Prelude.{List, Option, Some, None, option_map, option_and_then}
use Rattle.std.specs.List.{slice_get}
use Rattle.dwarf_units.specs.declared.locations.Base.{Base}
use Rattle.dwarf_units.specs.declared.locations.Base.TheVariants as base
use Rattle.dwarf_units.specs.declared.locations.Location.{Location}
use Rattle.dwarf_units.specs.declared.locations.Location.TheVariants as location
use Rattle.dwarf_frames.specs.declared.kinds.ValueKind.{ValueKind}
use Rattle.dwarf_frames.specs.declared.kinds.ValueKind.TheVariants as kind
use Rattle.dwarf_frames.specs.declared.values.FrameValue.{FrameValue}
use Rattle.show_rows.specs.Rows.{number_in}
use Rattle.show_moments.specs.declared.standing.OpenFunction.{OpenFunction}

-- Bits of a number of 64.
abbrev pub low_bits : ℕ → ℕ → ℕ
low_bits number count = if nat_lt count 64 then number % 2 ^ count else number

abbrev pub bits_from : ℕ → ℕ → ℕ
bits_from number first = if nat_lt first 64 then number / 2 ^ first else 0

-- The word that a place of WebAssembly holds in a frame. A global is no frame's.
abbrev pub word_of : OpenFunction → Base → Option ℕ
word_of o (base.Local index) = slice_get o.locals.now index
word_of o (base.Operand index) = slice_get o.operands.now index
word_of o (base.Global index) = None

-- The address that is so far from one of 32 bits.
abbrev pub address_by : ℕ → ℤ → Option ℕ
address_by address (pos n) = Some (address + n)
address_by address (negsuc n) = if nat_le (n + 1) address then Some (address - (n + 1)) else None

abbrev pub address_from : ℕ → ℤ → Option ℕ
address_from word offset = address_by (word % 2 ^ 32) offset

-- The number that a place has in a frame: a word of it, or that in so many bytes of the memory.
abbrev pub number_at : OpenFunction → List ℕ → Location → ℕ → Option ℕ
number_at o memory (location.Local index) size = word_of o (base.Local index)
number_at o memory (location.Operand index) size = word_of o (base.Operand index)
number_at o memory (location.Global index) size = None
number_at o memory (location.Static address) size = number_in memory (address, size)
number_at o memory (location.Memory held offset) size = option_and_then (λ address. number_in memory (address, size))
    (option_and_then (λ word. address_from word offset) (word_of o held))

-- The number that a value is in a frame.
abbrev pub number_of : OpenFunction → List ℕ → FrameValue → Option ℕ
number_of o memory v =
    option_map (λ number. low_bits (bits_from number v.first_bit) v.bits) (number_at o memory v.location v.size)

abbrev pub is_signed : ValueKind → Bool
is_signed kind.Signed = true
is_signed _ = false

abbrev pub is_pointer : ValueKind → Bool
is_pointer kind.Pointer = true
is_pointer _ = false

abbrev pub has_parts : ValueKind → Bool
has_parts kind.Parts = true
has_parts _ = false
