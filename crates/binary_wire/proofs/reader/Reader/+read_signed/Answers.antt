use Rattle.std.proofs.Common.{arith}
use Rattle.binary_wire.proofs.Tops.{half_seven, half_whole}
use Rattle.binary_wire.proofs.reader.Reader.+read_signed.Goals as goal

pub returns-clause-fits : goal.returns-clause-fits
returns-clause-fits t c = omega (arith, half_whole c.args.half c.requires.power c.if-half-le64.false, c.in_ok-high.ensures.fits)

pub read_signed-requires : goal.read_signed-requires
read_signed-requires t c = (omega arith, (half_seven c.args.half c.requires.power c.if-half-le64.false, omega arith))
