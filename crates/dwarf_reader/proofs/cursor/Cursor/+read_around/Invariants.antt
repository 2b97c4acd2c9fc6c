use Rattle.dwarf_reader.proofs.cursor.Cursor.+read_around.Given as goal

abbrev pub decreases-read_around : goal.decreases-read_around
decreases-read_around l = l.half
