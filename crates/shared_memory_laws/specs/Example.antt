-- A worked history: thread 0 starts thread 1, which waits until thread 0 notifies it; then both end.
use Rattle.std.specs.Prelude.{ℕ, negsuc, ◌≡◌, ◌≤◌, List, [], ◌∷◌, length, take, replicate, Option, Some, None}
use Rattle.types.specs.declared.event.Entry.{Entry}
use Rattle.types.specs.declared.event.Event.TheVariants.{Ask, Told}
use Rattle.types.specs.declared.event.Question.TheVariants.{Wait, Notify, Spawn, Leave}
use Rattle.types.specs.declared.event.Answer.{Answer}
use Rattle.types.specs.declared.event.Answer.TheVariants.{Number}
use Rattle.types.specs.declared.event.Reply.TheVariants.{Value, Done}
use Rattle.shared_memory.specs.declared.sleeper.Sleeper.{Sleeper}
use Rattle.shared_memory.specs.Memory.{Memory, loaded}
use Rattle.shared_memory.specs.WaitQueue.{WaitQueue}
use Rattle.shared_memory.specs.History.{entry, queue_after}
use Rattle.shared_memory.specs.Legal.{IsLegal}

-- Thread 0 starts a thread with argument 7, and is told its number, 1. Thread 1 waits at address 8, with no end, while
-- the number there is 0. Thread 0 notifies one waiter there. Both take their answers: thread 1 that it was woken, and
-- thread 0 that it woke one. Both leave.
abbrev pub meeting : List Entry
meeting =
    entry 0 (Ask (Spawn 7)) Done
    ∷ entry 0 (Told (Number 1)) Done
    ∷ entry 1 (Ask (Wait 8 4 0 (negsuc 0))) (Value 0)
    ∷ entry 0 (Ask (Notify 8 1)) Done
    ∷ entry 1 (Told (Number 0)) Done
    ∷ entry 0 (Told (Number 1)) Done
    ∷ entry 1 (Ask Leave) Done
    ∷ entry 1 (Told (Number 0)) Done
    ∷ entry 0 (Ask Leave) Done
    ∷ entry 0 (Told (Number 0)) Done
    ∷ []

-- The wait queue of these threads: who is alive, who sleeps, and what is due to thread 0 and to thread 1.
abbrev pub queue : List ℕ → List Sleeper → Option Answer → Option Answer → WaitQueue
queue alive sleepers to_zero to_one =
    record { alive = alive; sleepers = sleepers; due = to_zero ∷ to_one ∷ replicate 62 None; args = 7 ∷ [] }

-- Thread 1, as it sleeps.
abbrev pub waiter : Sleeper
waiter = record { thread = 1; addr = 8; timeout = negsuc 0 }

-- The queue as the history goes on, and that the history is legal.
pub record WorkedHistory : Type 0 where
  -- thread 1 is alive, and its number is due to thread 0
  pub started : queue_after (take 1 meeting) ≡ queue (0 ∷ 1 ∷ []) [] (Some (Number 1)) None
  -- thread 0 took it
  pub heard : queue_after (take 2 meeting) ≡ queue (0 ∷ 1 ∷ []) [] None None
  -- thread 1 sleeps
  pub asleep : queue_after (take 3 meeting) ≡ queue (0 ∷ 1 ∷ []) (waiter ∷ []) None None
  -- it was woken, and both are owed an answer
  pub notified : queue_after (take 4 meeting) ≡ queue (0 ∷ 1 ∷ []) [] (Some (Number 1)) (Some (Number 0))
  -- both took theirs
  pub awake : queue_after (take 6 meeting) ≡ queue (0 ∷ 1 ∷ []) [] None None
  -- thread 1 has left
  pub alone : queue_after (take 8 meeting) ≡ queue (0 ∷ []) [] None None
  -- nobody is left
  pub over : queue_after meeting ≡ queue [] [] None None
  -- so it went, from any memory with 12 bytes or more and the number 0 at address 8
  pub legal : (opening : Memory) → 12 ≤ length opening.bytes → loaded opening 8 4 ≡ 0 → IsLegal opening meeting
