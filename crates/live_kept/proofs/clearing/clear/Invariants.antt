use Rattle.live_kept.proofs.Words.{AreClearedBelow}
use Rattle.live_kept.proofs.clearing.clear.Given as goal

abbrev pub invariant-loop-local : goal.invariant-loop-local
invariant-loop-local l = AreClearedBelow l.local l.row l.fn.words l.words
