-- The wait queue: who is alive, who sleeps, and which answers are due (threads proposal, "Wait and notify
-- operators"; the ids and the settling are the profile's own).
use Rattle.std.specs.Prelude.{ℕ, ℤ, pos, negsuc, ◌≡◌, ◌+◌, ◌==◌, ◌&&◌, ◌||◌, Bool, true, false, not, nat_lt}
use Rattle.std.specs.Prelude.{if◌then◌else◌}
use Rattle.std.specs.Prelude.{List, [], ◌∷◌, ◌++◌, length, take, filter, replicate, Option, Some, None, is_some}
use Rattle.std.specs.Prelude.{slice_index_or, slice_set}
use Rattle.std.specs.List.{list_any, list_all}
use Rattle.std.specs.Option.{option_map_or}
use Rattle.types.specs.declared.event.Question.{Question}
use Rattle.types.specs.declared.event.Question.TheVariants.{Wait, Notify, Spawn, Leave}
use Rattle.types.specs.declared.event.Answer.{Answer}
use Rattle.types.specs.declared.event.Answer.TheVariants.{Number, ForGood}
use Rattle.shared_memory.specs.declared.sleeper.Sleeper.{Sleeper}

-- The live threads; the sleepers, who has slept longest first; the answer due to each thread that there may be, by
-- number; and the arguments of the spawned threads, of which thread n's stands at n - 1.
pub record WaitQueue : Type 0 where
  pub alive : List ℕ
  pub sleepers : List Sleeper
  pub due : List (Option Answer)
  pub args : List ℕ

-- At first thread 0 alone is alive, of so many threads as there may be.
unfoldable pub first_queue : ℕ → WaitQueue
first_queue most = record { alive = 0 ∷ []; sleepers = []; due = replicate most None; args = [] }

abbrev pub is_alive : WaitQueue → ℕ → Bool
is_alive q n = list_any (λ m. m == n) q.alive

abbrev pub is_among : ℕ → List Sleeper → Bool
is_among n sleepers = list_any (λ (s : Sleeper). s.thread == n) sleepers

abbrev pub is_asleep : WaitQueue → ℕ → Bool
is_asleep q n = is_among n q.sleepers

abbrev pub answer_due : WaitQueue → ℕ → Option Answer
answer_due q n = slice_index_or q.due n None

-- The number that the next spawned thread has. Numbers aren't used again.
abbrev pub next_id : WaitQueue → ℕ
next_id q = length q.args + 1

-- A thread can have this number. The next spawn starts a thread if one can have the next number.
abbrev pub has_slot : WaitQueue → ℕ → Bool
has_slot q n = nat_lt n (length q.due)

-- A thread is given an answer, which is due until it takes it.
abbrev pub tells : ℕ → Answer → WaitQueue → WaitQueue
tells n answer q = record q { due = slice_set q.due n (Some answer) }

-- Each of these sleepers is given an answer.
abbrev pub due_after : List Sleeper → Answer → List (Option Answer) → List (Option Answer)
due_after [] answer due = due
due_after (s ∷ sleepers) answer due = due_after sleepers answer (slice_set due s.thread (Some answer))

-- These sleepers sleep no more, and are given an answer.
abbrev pub wakes : List Sleeper → Answer → WaitQueue → WaitQueue
wakes woken answer q = record q {
  sleepers = filter (λ (s : Sleeper). not (is_among s.thread woken)) q.sleepers;
  due = due_after woken answer q.due;
}

-- A thread falls asleep, behind those that sleep already.
abbrev pub sleeps : Sleeper → WaitQueue → WaitQueue
sleeps s q = record q { sleepers = q.sleepers ++ s ∷ [] }

-- A thread with the next number and this argument comes alive.
abbrev pub starts : ℕ → WaitQueue → WaitQueue
starts arg q = record q { alive = q.alive ++ next_id q ∷ []; args = q.args ++ arg ∷ [] }

-- A thread is alive no more.
abbrev pub leaves : ℕ → WaitQueue → WaitQueue
leaves n q = record q { alive = filter (λ m. not (m == n)) q.alive }

-- Whom a notify wakes: those that have slept longest at the address, as many as it counts.
abbrev pub woken_at : ℕ → ℕ → List Sleeper → List Sleeper
woken_at addr count sleepers = take count (filter (λ (s : Sleeper). s.addr == addr) sleepers)

-- A timeout that ends ends after so much; one that is 0 ends at once, and a negative one never.
abbrev pub amount : ℤ → ℕ
amount (pos n) = n
amount (negsuc n) = 0

abbrev pub ends_at_once : ℤ → Bool
ends_at_once (pos n) = n == 0
ends_at_once (negsuc n) = false

abbrev pub has_timeout : Sleeper → Bool
has_timeout s = nat_lt 0 (amount s.timeout)

-- The timeout of one sleeper ends before another's: it is less, or they are equal and the thread's number is less.
abbrev pub ends_before : Sleeper → Sleeper → Bool
ends_before s t = nat_lt (amount s.timeout) (amount t.timeout)
    || ((amount s.timeout == amount t.timeout) && nat_lt s.thread t.thread)

abbrev pub earlier : Sleeper → Option Sleeper → Sleeper
earlier s None = s
earlier s (Some t) = if ends_before t s then t else s

-- The sleeper whose timeout ends first, where some sleeper has one.
abbrev pub first_to_end : List Sleeper → Option Sleeper
first_to_end [] = None
first_to_end (s ∷ sleepers) = if has_timeout s then Some (earlier s (first_to_end sleepers)) else first_to_end sleepers

-- Somebody is alive, and each live thread is asleep.
abbrev pub is_stuck : WaitQueue → Bool
is_stuck q = nat_lt 0 (length q.alive) && list_all (λ n. is_asleep q n) q.alive

-- Whom settling wakes where all are asleep, and with which answer.
abbrev pub ended : List Sleeper → List Sleeper
ended sleepers = option_map_or (λ s. s ∷ []) (first_to_end sleepers) sleepers

abbrev pub end_answer : List Sleeper → Answer
end_answer sleepers = if is_some (first_to_end sleepers) then Number 2 else ForGood

-- Settling: where each live thread is asleep, the first timeout ends; where there is none, all sleep for good.
abbrev pub settled : WaitQueue → WaitQueue
settled q = if is_stuck q then wakes (ended q.sleepers) (end_answer q.sleepers) q else q

-- What a question does before the queue settles; a wait's loaded value comes with it.
abbrev pub asked : WaitQueue → ℕ → Question → ℕ → WaitQueue
asked q n (Wait addr width expected timeout) loaded =
    if not (loaded == expected) then tells n (Number 1) q else
    if ends_at_once timeout then tells n (Number 2) q else
    sleeps (record { thread = n; addr = addr; timeout = timeout }) q
asked q n (Notify addr count) loaded =
    let woken = woken_at addr count q.sleepers in tells n (Number (length woken)) (wakes woken (Number 0) q)
asked q n (Spawn arg) loaded =
    if has_slot q (next_id q) then tells n (Number (next_id q)) (starts arg q) else tells n (Number 4294967295) q
asked q n Leave loaded = tells n (Number 0) (leaves n q)

-- The step at a question.
unfoldable pub after_question : WaitQueue → ℕ → Question → ℕ → WaitQueue
after_question q n question loaded = settled (asked q n question loaded)

-- The step at an answer taken. It changes neither who is alive nor who sleeps, so there is nothing to settle.
unfoldable pub after_answer : WaitQueue → ℕ → WaitQueue
after_answer q n = record q { due = slice_set q.due n None }

-- A thread is alive without an open question: it doesn't sleep, and no answer is due to it.
pub record IsFree (q : WaitQueue) (n : ℕ) : Type 0 where
  pub alive : is_alive q n ≡ true
  pub awake : is_asleep q n ≡ false
  pub told : answer_due q n ≡ None

-- A thread has an open question: it sleeps, or an answer is due to it.
abbrev pub has_open_question : WaitQueue → ℕ → Bool
has_open_question q n = is_asleep q n || is_some (answer_due q n)
