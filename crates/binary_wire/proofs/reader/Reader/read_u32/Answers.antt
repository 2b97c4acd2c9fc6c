use Rattle.std.proofs.Common.{refl}
use Rattle.binary_wire.proofs.reader.Reader.read_u32.Goals as goal

pub read_unsigned-requires : goal.read_unsigned-requires
read_unsigned-requires c = (32, refl)
