use Rattle.std.proofs.Common.{◌≡◌, drop}
use Rattle.shared_memory.specs.WaitQueue.{due_after}
use Rattle.waiters.proofs.waking.tell_each.Given as goal

abbrev pub invariant-loop-s : goal.invariant-loop-s
invariant-loop-s l = due_after (drop l.s-index l.woken) l.answer l.due ≡ due_after l.woken l.answer l.initial.due
