-- What a desk asks of its caller survives the caller's own accesses, and what others enter meanwhile.
use Rattle.std.specs.Prelude.{ℕ, ◌≡◌, Bool, false, List, [], Option}
use Rattle.types.specs.declared.event.Entry.{Entry}
use Rattle.types.specs.declared.event.Event.{Event}
use Rattle.types.specs.declared.event.Reply.{Reply}
use Rattle.shared_memory.specs.Events.{is_of_queue}
use Rattle.shared_memory.specs.Memory.{Memory}
use Rattle.shared_memory.specs.WaitQueue.{IsFree}
use Rattle.shared_memory.specs.History.{entries_of, queue_after}
use Rattle.shared_memory.specs.Legal.{IsQueueLegal}
use Rattle.shared_memory.specs.Access.{Gains, Accesses, Meets}
use Rattle.waiters_desk.specs.Calls.{IsWaiting}

-- After an access that is no question and no answer, whatever its reply, a thread that was free by its list is free by
-- its new list.
abbrev pub AFreeThreadStaysFree : Type 0
AFreeThreadStaysFree =
    (loses : Bool) (opening : Memory) (limit : Option ℕ) (n : ℕ) (right : Bool) (event : Event) (reply : Reply)
    (before after : List Entry)
    → is_of_queue event ≡ false
    → Accesses loses opening limit n right event before after reply
    → IsFree (queue_after before) n
    → IsFree (queue_after after) n

-- What a thread's list says of it, a longer list says too: a free thread stays free; one with an open question stays
-- alive, with that open, where the longer list is legal for the wait queue; and one without entries stays without.
pub record StandsAsBefore (n : ℕ) (before after : List Entry) : Type 0 where
  pub free : IsFree (queue_after before) n → IsFree (queue_after after) n
  pub waiting : IsQueueLegal after → IsWaiting (queue_after before) n → IsWaiting (queue_after after) n
  pub without : entries_of n before ≡ [] → entries_of n after ≡ []

-- It is so where the list goes on with entries of others alone, as at a lost try, at a full log and before an answer;
abbrev pub OthersLeaveAThreadAsItStands : Type 0
OthersLeaveAThreadAsItStands =
    (n : ℕ) (right : Bool) (before others after : List Entry) → Gains n right before others after
    → StandsAsBefore n before after

-- and where two meet, of both.
abbrev pub AMeetingLeavesBothAsTheyStand : Type 0
AMeetingLeavesBothAsTheyStand =
    (opening : Memory) (m n : ℕ) (right_a right_b : Bool) (a b both : List Entry)
    → Meets opening m n right_a right_b a b both
    → StandsAsBefore m a both × StandsAsBefore n b both
