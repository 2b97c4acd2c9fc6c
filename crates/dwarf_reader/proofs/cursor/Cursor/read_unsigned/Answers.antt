use Rattle.std.proofs.Common.{refl}
use Rattle.dwarf_reader.proofs.cursor.Cursor.read_unsigned.Goals as goal

pub read_up_to-requires : goal.read_up_to-requires
read_up_to-requires c = (64, refl)
