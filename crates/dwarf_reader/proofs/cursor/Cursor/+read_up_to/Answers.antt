use Rattle.std.proofs.Common.{arith}
use Rattle.binary_wire.proofs.Tops.{top_seven, top_whole}
use Rattle.dwarf_reader.proofs.cursor.Cursor.+read_up_to.Goals as goal

pub returns-clause-fits : goal.returns-clause-fits
returns-clause-fits t c = omega (arith, top_whole c.args.top c.requires c.if-top-le127.false, c.in_ok-high.ensures.fits)

pub read_up_to-requires : goal.read_up_to-requires
read_up_to-requires t c = (omega arith, top_seven c.args.top c.requires c.if-top-le127.false)
