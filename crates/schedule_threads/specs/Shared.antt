-- What threads share in the scheduled machine: the sequential memory, and the wait queue without the answers that are
-- due. Those belong to the threads' places in a history.
use Rattle.std.specs.Prelude.{ℕ, ◌==◌, ◌&&◌, Bool, true, false, cond, length, replicate, Option, Some, None}
use Rattle.std.specs.Prelude.{List}
use Rattle.types.specs.declared.event.Event.{Event}
use Rattle.types.specs.declared.event.Event.TheVariants as events
use Rattle.types.specs.declared.event.Question.TheVariants as questions
use Rattle.types.specs.declared.event.Reply.{Reply}
use Rattle.types.specs.declared.event.Reply.TheVariants as replies
use Rattle.types.specs.declared.event.Answer.{Answer}
use Rattle.types.specs.declared.event.Entry as entries
use Rattle.types.specs.declared.outcome.Outcome.{Outcome}
use Rattle.shared_memory.specs.Memory.{Memory, reply_of, state_after, touched}
use Rattle.shared_memory.specs.WaitQueue.{WaitQueue, answer_due, has_slot, next_id}
use Rattle.shared_memory.specs.History.{queue_step}
use Rattle.shared_memory.specs.Events.{is_exempt}
use Rattle.schedule.specs.System.{System, Act, Act.Made, Act.Heard}
use Rattle.schedule.specs.Machine.{Machine, MachineLaws, Thread, Thread.Runs, system}
use Rattle.schedule.specs.Tries.{TryRules}
use Rattle.schedule.specs.ThreadRun.{Laws}

pub record Shared : Type 0 where
  pub memory : Memory
  pub queue : WaitQueue

abbrev pub without_dues : WaitQueue → WaitQueue
without_dues q = record q { due = replicate (length q.due) None }

-- The wait queue after an event of a thread, with the answers that it makes due.
abbrev pub queue_by : Shared → ℕ → Event → WaitQueue
queue_by x n e = queue_step x.queue n e (reply_of x.memory e)

-- A question with its value, or done, is open. One out of bounds has its answer in its reply; a lost try and a full log
-- enter nothing.
abbrev pub is_question : Event → Reply → Bool
is_question (events.Ask question) (replies.Value v) = true
is_question (events.Ask question) replies.Done = true
is_question _ reply = false

module _ {C : Type 0} (k : Machine C Event Reply Answer Outcome) (start : ℕ → ℕ → C) (fuel : ℕ) where
  -- A spawn that gives out a number starts the thread of that number, with its argument and the same budget.
  abbrev pub starts_by : Shared → Event → ℕ → Option (Thread C Outcome)
  starts_by x (events.Ask (questions.Spawn arg)) m = cond (has_slot x.queue m && (m == next_id x.queue))
      (Some (Runs (start m arg) fuel)) None
  starts_by x _ m = None

  -- Threads of a machine over the memory and the queue.
  abbrev pub over_memory_and_queue : System Shared (Thread C Outcome) Event Reply Answer
  over_memory_and_queue =
      system k (λ (x : Shared) (n : ℕ) (e : Event). reply_of x.memory e)
      (λ (x : Shared) (n : ℕ) (e : Event). record {
        memory = state_after x.memory e;
        queue =
            without_dues (queue_by x n e);
      })
      (λ (x : Shared) (n : ℕ) (e : Event) (m : ℕ). answer_due (queue_by x n e) m)
      (λ (x : Shared) (n : ℕ) (e : Event) (m : ℕ). starts_by x e m)

-- An entry of a recorded history as an act.
abbrev pub act_by : Event → Reply → Act Event Reply Answer
act_by (events.Told answer) reply = Heard answer
act_by event reply = Made event reply

abbrev pub act_of : entries.Entry → Act Event Reply Answer
act_of e = act_by e.event e.reply

-- What a lost try is lost to, and how many entries a log takes.
abbrev pub try_rules : Bool → Option ℕ → TryRules Shared Event (List ℕ)
try_rules loses limit = record {
  loses = loses;
  touched = λ x e. touched x.memory e;
  limit = limit;
  is_exempt =
      is_exempt;
}

abbrev pub ThreadsOverMemoryAndQueueKeepTheLaws : Type 0 → Type 0
ThreadsOverMemoryAndQueueKeepTheLaws C =
    (k : Machine C Event Reply Answer Outcome) (start : ℕ → ℕ → C) (fuel : ℕ) → MachineLaws k
    → Laws (over_memory_and_queue k start fuel)
