-- What the calls of a desk leave of the list that the caller has seen, and what they answer (threads proposal, "Wait
-- and notify operators"; the ids of threads and their end are the profile's own).
use Rattle.std.specs.Prelude.{ℕ, ℤ, ◌≡◌, ◌≢◌, ◌⊎◌, true, false, List, [], ◌∷◌, ◌++◌, Option, Some, None}
use Rattle.types.specs.declared.event.Entry.{Entry}
use Rattle.types.specs.declared.event.Event.TheVariants.{Ask, Told}
use Rattle.types.specs.declared.event.Question.{Question}
use Rattle.types.specs.declared.event.Question.TheVariants.{Wait, Notify, Spawn, Leave}
use Rattle.types.specs.declared.event.Answer.{Answer}
use Rattle.types.specs.declared.event.Answer.TheVariants.{Number}
use Rattle.types.specs.declared.event.Reply.{Reply}
use Rattle.types.specs.declared.event.Reply.TheVariants.{Value, Done, OutOfBounds}
use Rattle.shared_memory.specs.Memory.{Memory}
use Rattle.shared_memory.specs.WaitQueue.{WaitQueue, is_alive, has_open_question, ends_at_once, IsFree}
use Rattle.shared_memory.specs.History.{entry, entries_of, queue_step, queue_after}
use Rattle.shared_memory.specs.Legal.{IsQueueLegal}
use Rattle.shared_memory.specs.Access.{IsSeen, HasRoom, HasReached}
use Rattle.waiters.specs.Queue.{arg_of}
use Rattle.waiters_desk.specs.declared.answers.Asked.{Asked}
use Rattle.waiters_desk.specs.declared.answers.Asked.TheVariants as asked
use Rattle.waiters_desk.specs.declared.answers.Notified.{Notified}
use Rattle.waiters_desk.specs.declared.answers.Notified.TheVariants as notified
use Rattle.waiters_desk.specs.declared.turn.Entered.{Entered}

-- A wait queue beside a list: it is the queue after the list, which is legal for it.
pub record IsBeside (q : WaitQueue) (seen : List Entry) : Type 0 where
  pub tied : q ≡ queue_after seen
  pub legal : IsQueueLegal seen

-- A thread is alive, and its question is open.
pub record IsWaiting (q : WaitQueue) (n : ℕ) : Type 0 where
  pub alive : is_alive q n ≡ true
  pub asked : has_open_question q n ≡ true

-- A thread is alive no more, and nothing is open.
pub record IsGone (q : WaitQueue) (n : ℕ) : Type 0 where
  pub left : is_alive q n ≡ false
  pub told : has_open_question q n ≡ false

-- A question with its reply, and an answer that is taken.
abbrev pub asked_with : ℕ → Question → Reply → Entry
asked_with n question reply = entry n (Ask question) reply

abbrev pub taken : ℕ → Answer → Entry
taken n answer = entry n (Told answer) Done

-- The list goes on with entries of others, among which stand those of the caller, in this order. It is legal for the
-- memory and for the wait queue.
pub record EntersAtDesk (opening : Memory) (n : ℕ) (own before after : List Entry) : Type 0 where
  pub added : List Entry
  pub list : after ≡ before ++ added
  pub of_caller : entries_of n added ≡ own
  pub seen : IsSeen opening after
  pub legal : IsQueueLegal after

-- The log had room for a question: before it there stood what the caller had seen, and entries of others.
pub record FindsRoom (limit : Option ℕ) (n : ℕ) (question : Question) (reply : Reply) (before after : List Entry)
    : Type 0 where
  pub others : List Entry
  pub rest : List Entry
  pub list : after ≡ (before ++ others) ++ asked_with n question reply ∷ rest
  pub apart : entries_of n others ≡ []
  pub room : HasRoom limit (Ask question) (before ++ others)

-- A question out of bounds: it has its answer in its reply, and the thread goes on.
pub record Misses (opening : Memory) (limit : Option ℕ) (n : ℕ) (question : Question) (before after : List Entry)
    : Type 0 where
  pub enters : EntersAtDesk opening n (asked_with n question OutOfBounds ∷ []) before after
  pub room : FindsRoom limit n question OutOfBounds before after
  pub free : IsFree (queue_after after) n

-- A question and its answer, in one call.
pub record Hears (opening : Memory) (limit : Option ℕ) (n : ℕ) (question : Question) (reply : Reply) (number : ℕ)
    (before after : List Entry) : Type 0 where
  pub enters : EntersAtDesk opening n (asked_with n question reply ∷ taken n (Number number) ∷ []) before after
  pub room : FindsRoom limit n question reply before after
  pub free : IsFree (queue_after after) n

-- A question that stays open.
pub record Sleeps (opening : Memory) (limit : Option ℕ) (n : ℕ) (question : Question) (reply : Reply)
    (before after : List Entry) : Type 0 where
  pub enters : EntersAtDesk opening n (asked_with n question reply ∷ []) before after
  pub room : FindsRoom limit n question reply before after
  pub waiting : IsWaiting (queue_after after) n

-- The number with which a wait is answered at once: 1 where another value was there, 2 where the timeout is 0.
abbrev pub IsAtOnce : ℕ → ℤ → ℕ → ℕ → Type 0
IsAtOnce expected timeout loaded number =
    ((loaded ≢ expected) × (number ≡ 1)) ⊎ ((loaded ≡ expected) × (ends_at_once timeout ≡ true) × (number ≡ 2))

-- What a wait does, by what it got. It sleeps exactly where the value is there and the timeout isn't 0.
abbrev pub Waits : Memory → Option ℕ → ℕ → ℕ → ℕ → ℕ → ℤ → List Entry → List Entry → Asked → Type 0
Waits opening limit n addr width expected timeout before after asked.OutOfBounds =
    Misses opening limit n (Wait addr width expected timeout) before after
Waits opening limit n addr width expected timeout before after (asked.Told number) =
    (loaded : ℕ) × Hears opening limit n (Wait addr width expected timeout) (Value loaded) number before after
    × IsAtOnce expected timeout loaded number
Waits opening limit n addr width expected timeout before after asked.Asleep =
    Sleeps opening limit n (Wait addr width expected timeout) (Value expected) before after
    × (ends_at_once timeout ≡ false)

-- What a notify does, by what it got.
abbrev pub Notifies : Memory → Option ℕ → ℕ → ℕ → ℕ → List Entry → List Entry → Notified → Type 0
Notifies opening limit n addr count before after notified.OutOfBounds =
    Misses opening limit n (Notify addr count) before after
Notifies opening limit n addr count before after (notified.Woke number) =
    Hears opening limit n (Notify addr count) Done number before after

-- What a spawn does: its number is the id of the new thread, or 4294967295 where none is left.
abbrev pub Spawns : Memory → Option ℕ → ℕ → ℕ → List Entry → List Entry → ℕ → Type 0
Spawns opening limit n arg before after number = Hears opening limit n (Spawn arg) Done number before after

-- What an end does.
pub record Leaves (opening : Memory) (limit : Option ℕ) (n : ℕ) (before after : List Entry) : Type 0 where
  pub enters : EntersAtDesk opening n (asked_with n Leave Done ∷ taken n (Number 0) ∷ []) before after
  pub room : FindsRoom limit n Leave Done before after
  pub gone : IsGone (queue_after after) n

-- The answer of an open question was taken, and the thread goes on.
pub record Collects (opening : Memory) (n : ℕ) (answer : Answer) (before after : List Entry) : Type 0 where
  pub enters : EntersAtDesk opening n (taken n answer ∷ []) before after
  pub free : IsFree (queue_after after) n

-- A thread that was spawned with this argument begins: it is free.
pub record BeginsThread (opening : Memory) (n arg : ℕ) (before after : List Entry) : Type 0 where
  pub enters : EntersAtDesk opening n [] before after
  pub spawned : arg_of (queue_after after) n ≡ Some arg
  pub free : IsFree (queue_after after) n

-- Nobody is alive, and no thread of this number was spawned.
pub record NeverBegins (opening : Memory) (n : ℕ) (before after : List Entry) : Type 0 where
  pub enters : EntersAtDesk opening n [] before after
  pub unspawned : arg_of (queue_after after) n ≡ None
  pub over : WaitQueue.alive (queue_after after) ≡ []

-- What a thread is told where it begins: its argument, or that nobody is left who could spawn it.
abbrev pub BeginsOrNever : Memory → ℕ → List Entry → List Entry → Option ℕ → Type 0
BeginsOrNever opening n before after None = NeverBegins opening n before after
BeginsOrNever opening n before after (Some arg) = BeginsThread opening n arg before after

-- Full: nothing of the caller was entered, the list seen has reached the limit, and the thread may go on.
pub record Refused (opening : Memory) (limit : Option ℕ) (n : ℕ) (before after : List Entry) : Type 0 where
  pub enters : EntersAtDesk opening n [] before after
  pub free : IsFree (queue_after after) n
  pub reached : HasReached limit after

-- Every question in one form, for the call that serves them all.

-- The reply to a question that loaded this value, or is out of bounds.
abbrev pub reply_with : Question → Option ℕ → Reply
reply_with (Wait addr width expected timeout) (Some loaded) = Value loaded
reply_with (Notify addr count) (Some loaded) = Done
reply_with (Spawn arg) (Some loaded) = Done
reply_with Leave (Some loaded) = Done
reply_with question None = OutOfBounds

-- The value that a question loaded, or `None` where it is out of bounds.
abbrev pub loaded_of : Option Entered → Option ℕ
loaded_of None = None
loaded_of (Some entered) = Some entered.loaded

-- The step of the wait queue at it.
abbrev pub step_of : Question → Option ℕ → ℕ → WaitQueue → WaitQueue
step_of question loaded n q = queue_step q n (Ask question) (reply_with question loaded)

-- A spawn and an end have no bounds to miss.
abbrev pub CanMiss : Question → Type 0
CanMiss (Wait addr width expected timeout) = Unit {0}
CanMiss (Notify addr count) = Unit {0}
CanMiss (Spawn arg) = ⊥
CanMiss Leave = ⊥

abbrev pub IsAskedWith : Question → Option ℕ → Type 0
IsAskedWith question (Some loaded) = Unit {0}
IsAskedWith question None = CanMiss question

pub record Asks (opening : Memory) (limit : Option ℕ) (n : ℕ) (question : Question) (loaded : Option ℕ)
    (before after : List Entry) : Type 0 where
  pub enters : EntersAtDesk opening n (asked_with n question (reply_with question loaded) ∷ []) before after
  pub room : FindsRoom limit n question (reply_with question loaded) before after
  pub can : IsAskedWith question loaded

-- What a question does, by what it got.
abbrev pub Puts : Memory → Option ℕ → ℕ → Question → List Entry → List Entry → Asked → Type 0
Puts opening limit n (Wait addr width expected timeout) before after got =
    Waits opening limit n addr width expected timeout before after got
Puts opening limit n (Notify addr count) before after asked.OutOfBounds =
    Misses opening limit n (Notify addr count) before after
Puts opening limit n (Notify addr count) before after (asked.Told number) =
    Hears opening limit n (Notify addr count) Done number before after
Puts opening limit n (Notify addr count) before after asked.Asleep = ⊥
Puts opening limit n (Spawn arg) before after asked.OutOfBounds = ⊥
Puts opening limit n (Spawn arg) before after (asked.Told number) = Spawns opening limit n arg before after number
Puts opening limit n (Spawn arg) before after asked.Asleep = ⊥
Puts opening limit n Leave before after asked.OutOfBounds = ⊥
Puts opening limit n Leave before after (asked.Told number) = Leaves opening limit n before after
Puts opening limit n Leave before after asked.Asleep = ⊥

-- A thread was spawned, or nobody is alive who could spawn it.
abbrev pub MayBegin : WaitQueue → ℕ → Type 0
MayBegin q n = (arg_of q n ≡ None) → q.alive ≡ []

-- A thread wasn't spawned, and somebody is alive who could spawn it.
abbrev pub IsToCome : WaitQueue → ℕ → Type 0
IsToCome q n = (arg_of q n ≡ None) × (q.alive ≢ [])
