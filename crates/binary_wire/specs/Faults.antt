-- The kinds of faults, and where they are.
use Rattle.std.specs.Prelude.{ℕ, ◌-◌, List, length, Option, Some, None}
use Rattle.binary_wire.specs.declared.bounds.Bounds.{Bounds}
use Rattle.binary_wire.specs.declared.fault.Fault.{Fault}
use Rattle.binary_wire.specs.declared.fault.Fault.TheVariants as kinds
use Rattle.binary_wire.specs.declared.fault.Refusal.{Refusal}
use Rattle.binary_wire.specs.declared.fault.ReadFault.{ReadFault}
use Rattle.binary_wire.specs.declared.fault.ReadFault.TheVariants.{OutOfMemory, Malformed}

-- The number by which a kind is reported.
abbrev pub kind_number : Fault → ℕ
kind_number kinds.EndOfInput = 1
kind_number kinds.Magic = 2
kind_number kinds.Version = 3
kind_number kinds.SectionOrder = 4
kind_number kinds.Size = 5
kind_number kinds.Number = 6
kind_number kinds.UnknownByte = 7
kind_number kinds.Float = 8
kind_number kinds.Name = 9
kind_number kinds.CountsDiffer = 10
kind_number kinds.Limit = 11
kind_number kinds.LimitsFlag = 12

abbrev pub fault_number : ReadFault → ℕ
fault_number OutOfMemory = 13
fault_number (Malformed kind offset) = kind_number kind

-- Where the fault is. Want of memory is nowhere in the input.
abbrev pub fault_offset : ReadFault → Option ℕ
fault_offset OutOfMemory = None
fault_offset (Malformed kind offset) = Some offset

abbrev pub refusal : Fault → ℕ → Refusal
refusal kind offset = record { kind = kind; offset = offset }

-- The offset of the first of the bytes that are left.
abbrev pub offset_of : Bounds → List ℕ → ℕ
offset_of bounds bytes = bounds.end - length bytes

-- A refusal at the first of the bytes that are left.
abbrev pub refused : Fault → Bounds → List ℕ → Refusal
refused kind bounds bytes = refusal kind (offset_of bounds bytes)

-- More bytes are needed than there are: refused at the end of those that there are.
abbrev pub missing : Bounds → Refusal
missing bounds = refusal bounds.missing bounds.end

-- The bounds of the whole input.
abbrev pub input : List ℕ → Bounds
input bytes = record { end = length bytes; missing = kinds.EndOfInput }

-- The bounds of contents of stated size, behind which these bytes are left.
abbrev pub inside : Bounds → List ℕ → Bounds
inside bounds rest = record { end = offset_of bounds rest; missing = kinds.Size }
