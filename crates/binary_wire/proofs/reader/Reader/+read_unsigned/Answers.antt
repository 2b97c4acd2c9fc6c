use Rattle.std.proofs.Common.{arith}
use Rattle.binary_wire.proofs.Tops.{top_seven, top_whole}
use Rattle.binary_wire.proofs.reader.Reader.+read_unsigned.Goals as goal

pub returns-clause-fits : goal.returns-clause-fits
returns-clause-fits t c = omega (arith, top_whole c.args.top c.requires c.if-top-le127.false, c.in_ok-high.ensures.fits)

pub read_unsigned-requires : goal.read_unsigned-requires
read_unsigned-requires t c = (omega arith, top_seven c.args.top c.requires c.if-top-le127.false)
