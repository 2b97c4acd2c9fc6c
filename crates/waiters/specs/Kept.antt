-- A queue without the answers due.
use Rattle.std.specs.Prelude.{length, replicate, None}
use Rattle.shared_memory.specs.WaitQueue.{WaitQueue}
use Rattle.waiters.specs.declared.kept.KeptQueue.{KeptQueue}

-- The queue, in which no answer is due.
abbrev pub without_answers : WaitQueue → WaitQueue
without_answers q = record {
  alive = q.alive;
  sleepers = q.sleepers;
  due = replicate (length q.due) None;
  args =
      q.args;
}

-- The queue that has this beside the answers due, of which there are none.
abbrev pub queue_of : KeptQueue → WaitQueue
queue_of k = record {
  alive = k.alive.items;
  sleepers = k.sleepers.items;
  due = replicate k.threads None;
  args =
      k.args.items;
}
