-- The kinds of faults of a module that isn't valid, and where they are.
use Rattle.std.specs.Prelude.{ℕ, Option, Some, None}
use Rattle.validate_typing.specs.declared.fault.Fault.{Fault}
use Rattle.validate_typing.specs.declared.fault.Fault.TheVariants as kinds
use Rattle.validate_typing.specs.declared.fault.BodyPlace.{BodyPlace}
use Rattle.validate_typing.specs.declared.fault.ValidFault.{ValidFault}
use Rattle.validate_typing.specs.declared.fault.ValidFault.TheVariants.{OutOfMemory, Outside, InBody}

-- The number by which a kind is reported.
abbrev pub fault_number : Fault → ℕ
fault_number kinds.TypeMismatch = 1
fault_number kinds.UnknownLabel = 2
fault_number kinds.UnknownLocal = 3
fault_number kinds.UnknownGlobal = 4
fault_number kinds.UnknownFunction = 5
fault_number kinds.UnknownType = 6
fault_number kinds.UnknownTable = 7
fault_number kinds.UnknownMemory = 8
fault_number kinds.ConstantGlobal = 9
fault_number kinds.Alignment = 10
fault_number kinds.Limits = 11
fault_number kinds.DuplicateExport = 12
fault_number kinds.MoreThanOne = 13
fault_number kinds.NotConstant = 14
fault_number kinds.UnknownImport = 15
fault_number kinds.SharedWithoutMaximum = 16
fault_number kinds.StartSection = 17
fault_number kinds.ThreadEntry = 18
fault_number kinds.SegmentOutside = 19
fault_number kinds.OutOfMemory = 20

abbrev pub fault_kind : ValidFault → Fault
fault_kind OutOfMemory = kinds.OutOfMemory
fault_kind (Outside kind) = kind
fault_kind (InBody kind function instruction) = kind

abbrev pub fault_place : ValidFault → Option BodyPlace
fault_place OutOfMemory = None
fault_place (Outside kind) = None
fault_place (InBody kind function instruction) = Some (record { function = function; instruction = instruction })
