-- Which histories are legal: for the memory, for the wait queue, and in the order of each thread's calls.
use Rattle.std.specs.Prelude.{ℕ, ◌≡◌, List, [], ◌∷◌, Some}
use Rattle.types.specs.declared.event.Entry.{Entry}
use Rattle.types.specs.declared.event.Event.{Event}
use Rattle.types.specs.declared.event.Event.TheVariants.{Ask, Told}
use Rattle.types.specs.declared.limits.TheConstants.{MOST_THREADS}
use Rattle.shared_memory.specs.Memory.{Memory, reply_of, state_after}
use Rattle.shared_memory.specs.WaitQueue.{WaitQueue, first_queue, IsFree, answer_due}
use Rattle.shared_memory.specs.History.{of_queue, queue_step, queue_after}

-- Legal for the memory: from this one on, each reply is the sequential memory's.
abbrev pub IsMemoryLegal : Memory → List Entry → Type 0
IsMemoryLegal m [] = Unit {0}
IsMemoryLegal m (e ∷ history) = (e.reply ≡ reply_of m e.event) × IsMemoryLegal (state_after m e.event) history

-- A question is of a live thread without an open one; an answer taken is the one that is due.
abbrev pub IsAllowed : WaitQueue → ℕ → Event → Type 0
IsAllowed q n (Ask question) = IsFree q n
IsAllowed q n (Told answer) = answer_due q n ≡ Some answer
IsAllowed q n _ = Unit {0}

abbrev pub IsQueueLegalFrom : WaitQueue → List Entry → Type 0
IsQueueLegalFrom q [] = Unit {0}
IsQueueLegalFrom q (e ∷ history) = IsAllowed q e.thread e.event
    × IsQueueLegalFrom (queue_step q e.thread e.event e.reply) history

-- Legal for the wait queue: its questions and answers are allowed, each after those before it.
unfoldable pub IsQueueLegal : List Entry → Type 0
IsQueueLegal history = IsQueueLegalFrom (first_queue MOST_THREADS) (of_queue history)

-- After this history the thread may hand the event in.
unfoldable pub MayEnter : ℕ → Event → List Entry → Type 0
MayEnter n event history = IsAllowed (queue_after history) n event

-- A thread enters only while it is alive and has no open question; the answer to its question excepted.
abbrev pub IsInTurn : WaitQueue → ℕ → Event → Type 0
IsInTurn q n (Told answer) = Unit {0}
IsInTurn q n _ = IsFree q n

abbrev pub IsWellFormedFrom : WaitQueue → List Entry → Type 0
IsWellFormedFrom q [] = Unit {0}
IsWellFormedFrom q (e ∷ history) = IsInTurn q e.thread e.event
    × IsWellFormedFrom (queue_step q e.thread e.event e.reply) history

-- Well formed: each entry comes in its thread's turn.
unfoldable pub IsWellFormed : List Entry → Type 0
IsWellFormed history = IsWellFormedFrom (first_queue MOST_THREADS) history

-- A legal history from an opening memory.
pub record IsLegal (opening : Memory) (history : List Entry) : Type 0 where
  pub memory : IsMemoryLegal opening history
  pub queue : IsQueueLegal history
  pub form : IsWellFormed history
