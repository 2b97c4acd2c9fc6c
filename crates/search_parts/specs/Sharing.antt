-- What stands for the shared state, and what an event of a thread makes.
use Rattle.std.specs.Prelude.{ℕ, ◌≡◌, List, length, cond, nat_lt, option_and_then, Option, Some, None}
use Rattle.types.specs.declared.limits.TheConstants.{MOST_THREADS}
use Rattle.types.specs.declared.event.Answer.{Answer}
use Rattle.types.specs.declared.event.Event.{Event}
use Rattle.types.specs.declared.event.Event.TheVariants as events
use Rattle.types.specs.declared.event.Question.TheVariants as questions
use Rattle.shared_memory.specs.Memory.{reply_of}
use Rattle.shared_memory.specs.WaitQueue.{WaitQueue, answer_due, first_queue, next_id}
use Rattle.shared_memory_sequential.specs.Opening.{IsSized}
use Rattle.schedule_threads.specs.Shared.{Shared, queue_by}
use Rattle.waiters.specs.Kept.{queue_of}
use Rattle.search_memory.specs.Memories.{memory_of}
use Rattle.search_parts.specs.declared.shared.Common.{Common}
use Rattle.search_parts.specs.declared.event.Begun.{Begun}
use Rattle.search_parts.specs.declared.event.Effect.{Effect}

-- It is this memory and this queue.
pub record Shares (opening : List ℕ) (c : Common) (x : Shared) : Type 0 where
  pub memory : memory_of opening c.memory ≡ x.memory
  pub queue : queue_of c.queue ≡ x.queue
  pub sized : IsSized (memory_of opening c.memory)

-- It is the memory before any event, and the queue in which thread 0 alone is alive.
abbrev pub SharesFirst : List ℕ → ℕ → Common → Type 0
SharesFirst opening max c =
    Shares opening c (record { memory = record { bytes = opening; max = max }; queue = first_queue MOST_THREADS })

-- How many threads were started, thread 0 among them.
abbrev pub started_in : Shared → ℕ
started_in x = next_id x.queue

-- The thread that an event starts: a spawn starts the one with the next number, while there is room.
abbrev pub begun_in : WaitQueue → Event → Option Begun
begun_in q (events.Ask (questions.Spawn arg)) =
    cond (nat_lt (next_id q) (length q.due)) (Some (record { id = next_id q; arg = arg })) None
begun_in q _ = None

-- The answer that is due to a thread after an event, and that these are the answers that are due in a queue.
abbrev pub answer_in : Effect → ℕ → Option Answer
answer_in made m = option_and_then (λ q. answer_due q.value m) made.queue

abbrev pub HasAnswers : Effect → WaitQueue → Type 0
HasAnswers made q = (m : ℕ) → answer_in made m ≡ answer_due q m

-- What an event makes: its reply, the answers that are due then, and the thread that it starts.
pub record Makes (made : Effect) (x : Shared) (n : ℕ) (e : Event) : Type 0 where
  pub reply : made.reply ≡ reply_of x.memory e
  pub answers : HasAnswers made (queue_by x n e)
  pub begun : made.begun ≡ begun_in x.queue e
