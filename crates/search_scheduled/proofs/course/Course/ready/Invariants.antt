use Rattle.std.proofs.Common.{◌≤◌, length}
use Rattle.search_scheduled.proofs.Ready.{AreReadyBelow}
use Rattle.search_scheduled.proofs.course.Course.ready.Given as goal

abbrev pub invariant-loop-n : goal.invariant-loop-n
invariant-loop-n g l = (length l.ready.items ≤ l.n) × AreReadyBelow g.T.TakesTurns.meaning l.self.walk.stage l.n l.ready.items
