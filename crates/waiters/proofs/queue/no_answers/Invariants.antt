use Rattle.std.proofs.Common.{◌≡◌, replicate, None}
use Rattle.waiters.proofs.queue.no_answers.Given as goal

abbrev pub invariant-loop : goal.invariant-loop
invariant-loop l = l.due.items ≡ replicate l.counter None
