use Rattle.std.proofs.Common.{length}
use Rattle.replay_forms.proofs.front.+after.Given as goal

abbrev pub decreases-after : goal.decreases-after
decreases-after l = length l.word.now
