-- The instructions that opcodes and their immediates make.
use Rattle.std.specs.Prelude.{ℕ, Option}
use Rattle.types.specs.declared.value.ValType.{ValType}
use Rattle.types.specs.declared.value.Value.{Value}
use Rattle.types.specs.Values.{const_of}
use Rattle.types.specs.declared.instr.Instr.{Instr}
use Rattle.types.specs.declared.instr.Instr.TheVariants as instrs
use Rattle.types.specs.declared.instr.PlainInstr.{PlainInstr}
use Rattle.types.specs.declared.instr.PlainInstr.TheVariants as plain
use Rattle.binary_instructions.specs.declared.opcodes.Opener.{Opener}
use Rattle.binary_instructions.specs.declared.opcodes.Opener.TheVariants as openers
use Rattle.binary_instructions.specs.declared.opcodes.BareInstr.{BareInstr}
use Rattle.binary_instructions.specs.declared.opcodes.BareInstr.TheVariants as bare
use Rattle.binary_instructions.specs.declared.opcodes.IndexInstr.{IndexInstr}
use Rattle.binary_instructions.specs.declared.opcodes.IndexInstr.TheVariants as index

-- What begins a block of a type.
abbrev pub opening : Opener → Option ValType → Instr
opening openers.Block t = instrs.Block t
opening openers.Loop t = instrs.Loop t
opening openers.If t = instrs.If t

abbrev pub bare_instr : BareInstr → PlainInstr
bare_instr bare.Unreachable = plain.Unreachable
bare_instr bare.Nop = plain.Nop
bare_instr bare.Return = plain.Return
bare_instr bare.Drop = plain.Drop
bare_instr bare.Select = plain.Select

abbrev pub index_instr : IndexInstr → ℕ → PlainInstr
index_instr index.Br n = plain.Br n
index_instr index.BrIf n = plain.BrIf n
index_instr index.Call n = plain.Call n
index_instr index.LocalGet n = plain.LocalGet n
index_instr index.LocalSet n = plain.LocalSet n
index_instr index.LocalTee n = plain.LocalTee n
index_instr index.GlobalGet n = plain.GlobalGet n
index_instr index.GlobalSet n = plain.GlobalSet n

abbrev pub const_instr : Value → Instr
const_instr v = instrs.Plain (const_of v)
