use Rattle.std.proofs.Common.{length}
use Rattle.dwarf_reader.proofs.cursor.+number_of.Given as goal

abbrev pub decreases-number_of : goal.decreases-number_of
decreases-number_of l = length l.bytes.now
