use Rattle.show_waits.proofs.Standing.{IsSeen}
use Rattle.show_waits.proofs.stands.stand_of.Given as goal

abbrev pub invariant-loop-place : goal.invariant-loop-place
invariant-loop-place l = IsSeen l.n l.log l.out l.place l.found
