-- What a run of the scheduled machine starts with, what each of its states keeps to, and what a question makes of one.
use Rattle.std.specs.Prelude.{ℕ, ◌≡◌, ◌+◌, ◌≤◌, ◌==◌, ◌&&◌, true, cond, nat_lt, length, Option}
use Rattle.std.specs.Prelude.{Some, None}
use Rattle.types.specs.declared.event.Event.{Event}
use Rattle.types.specs.declared.event.Question.{Question}
use Rattle.types.specs.declared.event.Question.TheVariants as questions
use Rattle.types.specs.declared.event.Reply.TheVariants as replies
use Rattle.types.specs.declared.event.Reply.{Reply}
use Rattle.types.specs.declared.event.Answer.{Answer}
use Rattle.types.specs.declared.limits.TheConstants.{MOST_THREADS}
use Rattle.shared_memory.specs.Memory.{Memory}
use Rattle.shared_memory.specs.WaitQueue.{WaitQueue, is_alive, is_asleep, answer_due, next_id, after_question}
use Rattle.shared_memory.specs.Sound.{IsSound}
use Rattle.schedule.specs.System.{Want.Awaits, System, put}
use Rattle.schedule.specs.Scheduled.{hears_any, or_started}
use Rattle.schedule.specs.Machine.{Thread.Absent, Thread.Runs}
use Rattle.interp_machine.specs.Program.{Program}
use Rattle.interp_machine.specs.Config.{Config}
use Rattle.interp_machine.specs.State as states
use Rattle.schedule_threads.specs.Shared.{Shared, without_dues, over_memory_and_queue}
use Rattle.schedule_threads.specs.Threads.{machine_of}
use Rattle.schedule_runs.specs.Runs.{Start}
use Rattle.interp_trait.specs.Turns.{Running, wants_of, IsHere, spawned_in}
use Rattle.schedule_machine.specs.Threads.{Setting}

-- What a run starts with, where thread 0 begins in a configuration; and the system of its threads.
abbrev pub start_of : Setting → Config → Memory → Start
start_of s main opening = record {
  program = s.program;
  main = states.At main;
  spawned = spawned_in s.worker;
  fuel = s.fuel;
  opening = opening;
}

abbrev pub system_by : Setting → System Shared Running Event Reply Answer
system_by s = over_memory_and_queue (machine_of s.program) (spawned_in s.worker) s.fuel

-- At first thread 0 alone is there.
abbrev pub first_thread : Running → ℕ → Running
first_thread t = put (λ (m : ℕ). Absent) 0 t

-- What every state of the scheduled machine keeps to: there may be 64 threads, no answer is due, who was started and
-- hasn't left is alive, and who sleeps awaits the answer to its question.
pub record IsOrderly (p : Program) (q : WaitQueue) (threads : ℕ → Running) : Type 0 where
  pub sound : IsSound q
  pub dues : length q.due ≡ MOST_THREADS
  pub heard : without_dues q ≡ q
  pub unstarted : (m : ℕ) → next_id q ≤ m → threads m ≡ Absent
  pub living : (m : ℕ) → IsHere (threads m) → is_alive q m ≡ true
  pub awaiting : (m : ℕ) → is_asleep q m ≡ true → wants_of p (threads m) ≡ Awaits

-- Each thread after answers were given.
abbrev pub all_hear : Setting → (ℕ → Running) → WaitQueue → ℕ → Running
all_hear s threads q m = hears_any (system_by s) (threads m) (answer_due q m)

-- To whom an answer is due awaits it.
abbrev pub MayHear : Setting → (ℕ → Running) → WaitQueue → Type 0
MayHear s threads q = (m : ℕ) (a : Answer) → answer_due q m ≡ Some a → wants_of s.program (threads m) ≡ Awaits

-- A spawn starts a thread under the next number, while there is room for it.
abbrev pub spawned_at : Setting → ℕ → ℕ → ℕ → Option Running
spawned_at s next arg m = cond (nat_lt m MOST_THREADS && (m == next))
    (Some (Runs (spawned_in s.worker m arg) s.fuel)) None

-- The thread that a question starts under a number, and the number that comes next then.
abbrev pub started_at : Setting → ℕ → Question → ℕ → Option Running
started_at s next (questions.Spawn arg) m = spawned_at s next arg m
started_at s next question m = None

abbrev pub next_after : ℕ → Question → ℕ
next_after next (questions.Spawn arg) = cond (nat_lt next MOST_THREADS) (next + 1) next
next_after next question = next

-- Each thread after a question: it hears the answer that it was given, and a spawn starts its thread.
abbrev pub started_by : Setting → (ℕ → Running) → WaitQueue → ℕ → Question → ℕ → ℕ → Running
started_by s threads q n question loaded m = or_started (started_at s (next_id q) question m)
    (all_hear s threads (after_question q n question loaded) m)

-- The value that a question loaded, where its reply leaves it open.
abbrev pub opening_value : Reply → Option ℕ
opening_value (replies.Value n) = Some n
opening_value replies.Done = Some 0
opening_value replies.OutOfBounds = None
opening_value replies.Again = None
opening_value replies.Full = None
