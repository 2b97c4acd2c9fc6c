-- What single bytes mean.
use Rattle.std.specs.Prelude.{ℕ, Bool, true, false, Option, Some, None, nat_eq, if◌then◌else◌}
use Rattle.types.specs.declared.parts.Limits.{Limits}
use Rattle.types.specs.declared.parts.ExportDesc.{ExportDesc}
use Rattle.types.specs.declared.parts.ExportDesc.TheVariants as exports
use Rattle.binary.specs.declared.kinds.ExternalKind.{ExternalKind}
use Rattle.binary.specs.declared.kinds.ExternalKind.TheVariants as kinds
use Rattle.binary.specs.declared.kinds.LimitsFlag.{LimitsFlag}
use Rattle.binary.specs.declared.kinds.LimitsFlag.TheVariants as flags

-- The kind of an import or an export (Core specification 1.0, sections 5.5.5 and 5.5.10).
abbrev pub external_kind_of : ℕ → Option ExternalKind
external_kind_of b = if nat_eq b 0x00 then Some kinds.Func else (if nat_eq b 0x01 then Some kinds.Table
    else (if nat_eq b 0x02 then Some kinds.Memory else (if nat_eq b 0x03 then Some kinds.Global else None)))

-- Whether a global is variable (Core specification 1.0, section 5.3.7).
abbrev pub mutability_of : ℕ → Option Bool
mutability_of b = if nat_eq b 0x00 then Some false else (if nat_eq b 0x01 then Some true else None)

-- A table's flag (Core specification 1.0, section 5.3.4).
abbrev pub table_flag_of : ℕ → Option LimitsFlag
table_flag_of b = if nat_eq b 0x00 then Some flags.Min else (if nat_eq b 0x01 then Some flags.MinMax else None)

-- A memory's flag: a shared one has a maximum (threads proposal, section "Binary format").
abbrev pub memory_flag_of : ℕ → Option LimitsFlag
memory_flag_of b = if nat_eq b 0x00 then Some flags.Min else (if nat_eq b 0x01 then Some flags.MinMax
    else (if nat_eq b 0x03 then Some flags.SharedMinMax else None))

abbrev pub min_limits : ℕ → Limits
min_limits min = record { min = min; max = None; shared = false }

abbrev pub min_max_limits : Bool → ℕ → ℕ → Limits
min_max_limits shared min max = record { min = min; max = Some max; shared = shared }

abbrev pub exported : ExternalKind → ℕ → ExportDesc
exported kinds.Func n = exports.Func n
exported kinds.Table n = exports.Table n
exported kinds.Memory n = exports.Memory n
exported kinds.Global n = exports.Global n
