use Rattle.shared_memory.specs.WaitQueue.{first_queue}
use Rattle.shared_memory.proofs.Soundness.{IsSound-opening}
use Rattle.waiters.proofs.queue.Queue.new.Goals as goal

pub invariant_of-result : goal.invariant_of-result
unfolding first_queue
invariant_of-result c = rw (c.push.ensures.items, c.new-alive.ensures, c.new.ensures, c.new-2.ensures, c.no_answers.ensures)
    (IsSound-opening c.args.threads c.requires.some c.requires.most)
