use Rattle.std.proofs.Common.{arith, sym}
use Rattle.binary_instructions.proofs.Table.{atomic_is, atomic_past}
use Rattle.binary_instructions.proofs.opcodes.shape_of_atomic.Goals as goal

pub returns-then-number-lt79 : goal.returns-then-number-lt79
returns-then-number-lt79 c = atomic_is c.args.number _ (omega arith)

pub returns-else-number-lt79 : goal.returns-else-number-lt79
returns-else-number-lt79 c = sym (atomic_past c.args.number (omega arith))
