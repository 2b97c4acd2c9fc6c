use Rattle.std.proofs.Common.{refl, arith}
use Rattle.binary_wire.proofs.reader.Reader.read_s64.Goals as goal

pub read_signed-requires : goal.read_signed-requires
read_signed-requires c = record { power = (63, refl); most = omega arith }
