use Rattle.std.proofs.Common.{length}
use Rattle.binary.proofs.opening.+read_fixed.Given as goal

abbrev pub decreases-read_fixed : goal.decreases-read_fixed
decreases-read_fixed l = length l.expected.now
