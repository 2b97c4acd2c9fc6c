use Rattle.live_locals.proofs.Sound.{IsSoundBelow}
use Rattle.live_locals.proofs.checking.is_sound.Given as goal

abbrev pub invariant-loop-place : goal.invariant-loop-place
invariant-loop-place l = IsSoundBelow l.place l.code l.table l.rows
