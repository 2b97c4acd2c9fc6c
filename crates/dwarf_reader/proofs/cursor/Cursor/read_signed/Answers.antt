use Rattle.std.proofs.Common.{refl}
use Rattle.dwarf_reader.proofs.cursor.Cursor.read_signed.Goals as goal

pub read_around-requires-clause-power : goal.read_around-requires-clause-power
read_around-requires-clause-power c = (63, refl)
