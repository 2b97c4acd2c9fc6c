-- The types of values, how values are written, and the instructions that give them.
use Rattle.std.specs.Prelude.{ℕ, List, ◌++◌, codes}
use Rattle.std.specs.Fmt.{decimal}
use Rattle.types.specs.declared.value.ValType.{ValType}
use Rattle.types.specs.declared.value.ValType.TheVariants as types
use Rattle.types.specs.declared.value.Value.{Value}
use Rattle.types.specs.declared.value.Value.TheVariants as values
use Rattle.types.specs.declared.instr.PlainInstr.{PlainInstr}
use Rattle.types.specs.declared.instr.PlainInstr.TheVariants as plain

-- The type of a value (Core specification 1.0, section 4.2.1).
abbrev pub type_of : Value → ValType
type_of (values.I32 n) = types.I32
type_of (values.I64 n) = types.I64

-- A value as it is printed: its type, a colon and an unsigned decimal.
abbrev pub value_text : Value → List ℕ
value_text (values.I32 n) = codes "i32:" ++ decimal n
value_text (values.I64 n) = codes "i64:" ++ decimal n

-- The constant of a value (section 2.4.1).
abbrev pub const_of : Value → PlainInstr
const_of (values.I32 n) = plain.I32Const n
const_of (values.I64 n) = plain.I64Const n
