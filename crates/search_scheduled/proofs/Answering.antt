-- What a settled thread makes.
use Rattle.types.specs.declared.event.Event.{Event}
use Rattle.types.specs.declared.event.Reply.{Reply}
use Rattle.types.specs.declared.event.Reply.TheVariants as replies
use Rattle.shared_memory.specs.Memory.{Memory, reply_of}
use Rattle.schedule_machine.specs.Threads.{IsMadeReply}
use Rattle.schedule_machine.proofs.Accesses.{memory_made}
use Rattle.replay_walk.specs.Standing.{IsAnswered}

answered_where_made : (v : Reply) → IsMadeReply v → IsAnswered v
answered_where_made (replies.Value n) made = made
answered_where_made replies.Done made = made
answered_where_made replies.OutOfBounds made = made
answered_where_made replies.Again made = made
answered_where_made replies.Full made = made

-- the memory answers every event
pub is_answered : (m : Memory) (e : Event) → IsAnswered (reply_of m e)
is_answered m e = answered_where_made (reply_of m e) (memory_made m e)
