-- Which argument a spawned thread has, which question sleeps, and of whom a queue is told.
use Rattle.std.specs.Prelude.{ℕ, ◌≡◌, ◌<◌, ◌==◌, ◌&&◌, Bool, true, false, not, if◌then◌else◌, List}
use Rattle.std.specs.Prelude.{Option, None, MatchOption, slice_get, zero, suc}
use Rattle.std.specs.List.{All}
use Rattle.types.specs.declared.event.Answer.{Answer}
use Rattle.types.specs.declared.event.Answer.TheVariants.{Number}
use Rattle.types.specs.declared.event.Question.{Question}
use Rattle.types.specs.declared.event.Question.TheVariants.{Wait, Notify, Spawn, Leave}
use Rattle.shared_memory.specs.declared.sleeper.Sleeper.{Sleeper}
use Rattle.shared_memory.specs.WaitQueue.{WaitQueue, is_among, is_asleep, ends_at_once, next_id, starts, wakes}
use Rattle.shared_memory.specs.WaitQueue.{has_slot, woken_at, after_answer}

-- The argument of a spawned thread. Thread 0 has none, nor has one that wasn't spawned.
abbrev pub arg_of : WaitQueue → ℕ → Option ℕ
arg_of q zero = None
arg_of q (suc n) = slice_get q.args n

-- The question of who falls asleep: a wait, where the value is there and the timeout isn't 0.
abbrev pub falls_asleep : Question → ℕ → Bool
falls_asleep (Wait addr width expected timeout) loaded = (loaded == expected) && not (ends_at_once timeout)
falls_asleep (Notify addr count) loaded = false
falls_asleep (Spawn arg) loaded = false
falls_asleep Leave loaded = false

-- Each sleeper is one of so many threads, numbered from 0.
abbrev pub AreNumbered : ℕ → List Sleeper → Type 0
AreNumbered threads sleepers = All (λ (s : Sleeper). s.thread < threads) sleepers

-- Each of these sleepers sleeps in the queue.
abbrev pub AreAsleep : List Sleeper → WaitQueue → Type 0
AreAsleep sleepers q = (n : ℕ) → is_among n sleepers ≡ true → is_asleep q n ≡ true

-- The answer that was due to a thread is taken, where there was one.
abbrev pub TakesAnswerIfDue : Option Answer → ℕ → WaitQueue → WaitQueue → Type 0
TakesAnswerIfDue answer n before after = MatchOption answer (after ≡ before) (λ _. after ≡ after_answer before n)

-- The queue without those whom a notify wakes.
abbrev pub notified : ℕ → ℕ → WaitQueue → WaitQueue
notified addr count q = wakes (woken_at addr count q.sleepers) (Number 0) q

-- The queue with a further thread, and the number of that; where each number has a thread, it stays, and the number is
-- this one.
abbrev pub spawned : ℕ → WaitQueue → WaitQueue
spawned arg q = if has_slot q (next_id q) then starts arg q else q

abbrev pub id_of_spawned : WaitQueue → ℕ → ℕ
id_of_spawned q none = if has_slot q (next_id q) then next_id q else none
