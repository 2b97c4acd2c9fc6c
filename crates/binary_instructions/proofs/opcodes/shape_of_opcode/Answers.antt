use Rattle.std.proofs.Common.{arith}
use Rattle.binary_instructions.proofs.Table.{opcode_is}
use Rattle.binary_instructions.proofs.opcodes.shape_of_opcode.Goals as goal

pub returns : goal.returns
returns c = opcode_is c.from.result c.args.code _ (omega arith) (omega arith)
