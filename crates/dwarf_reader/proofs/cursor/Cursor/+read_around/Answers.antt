use Rattle.std.proofs.Common.{arith}
use Rattle.binary_wire.proofs.Tops.{half_seven}
use Rattle.dwarf_reader.proofs.cursor.Cursor.+read_around.Goals as goal

pub read_around-requires : goal.read_around-requires
read_around-requires t c = (omega arith, (half_seven c.args.half c.requires.power c.if-half-le64.false, omega arith))
