-- The laws of waiting and notifying (threads proposal, "Wait and notify operators"), of settling, and of histories.
use Rattle.std.specs.Prelude.{ℕ, ◌≡◌, ◌≢◌, ◌<◌, ◌≤◌, ◌==◌, ◌&&◌, ◌⊎◌, true, false, not, List, [], ◌∷◌, ◌++◌, length}
use Rattle.std.specs.Prelude.{min, Some, is_some}
use Rattle.std.specs.List.{filter, Contains}
use mathlib.Core.List.{IsPrefix}
use Rattle.types.specs.declared.event.Entry.{Entry}
use Rattle.types.specs.declared.event.Event.{Event}
use Rattle.types.specs.declared.event.Event.TheVariants.{Ask, Told}
use Rattle.types.specs.declared.event.Question.TheVariants.{Notify}
use Rattle.types.specs.declared.event.Answer.TheVariants.{Number, ForGood}
use Rattle.types.specs.declared.event.Reply.{Reply}
use Rattle.types.specs.declared.event.Reply.TheVariants.{OutOfBounds}
use Rattle.shared_memory.specs.declared.sleeper.Sleeper.{Sleeper}
use Rattle.shared_memory.specs.Memory.{Memory}
use Rattle.shared_memory.specs.WaitQueue.{WaitQueue, is_alive, is_among, is_asleep, answer_due}
use Rattle.shared_memory.specs.WaitQueue.{amount, settled, asked, after_answer, has_open_question}
use Rattle.shared_memory.specs.History.{entry, value_of, queue_after}
use Rattle.shared_memory.specs.Legal.{IsQueueLegal, IsLegal}
use Rattle.shared_memory_laws.specs.Exchanges.{exchanges_of, Alternate, lacks_an_answer}

-- In a history that the wait queue allows, the questions of a thread and the answers that it took alternate, and the
-- first is a question. So each answer taken answers one question, the one before it.
abbrev pub AnswersAlternate : Type 0
AnswersAlternate = (history : List Entry) (n : ℕ) → IsQueueLegal history → Alternate (exchanges_of n history)

-- A thread has an open question just while its last question is without an answer.
abbrev pub OpenUntilAnswered : Type 0
OpenUntilAnswered = (history : List Entry) (n : ℕ) → IsQueueLegal history
    → has_open_question (queue_after history) n ≡ lacks_an_answer (exchanges_of n history)

-- No thread is asleep while an answer is due to it.
abbrev pub NeverAsleepAndOwed : Type 0
NeverAsleepAndOwed = (history : List Entry) (n : ℕ) → IsQueueLegal history
    → (is_asleep (queue_after history) n && is_some (answer_due (queue_after history) n)) ≡ false

-- Those who sleep at an address, who has slept longest first.
abbrev pub asleep_at : ℕ → WaitQueue → List Sleeper
asleep_at addr q = filter (λ (s : Sleeper). s.addr == addr) q.sleepers

-- What a notify by thread n at an address does.
pub record WakesTheLongestAsleep (n addr count : ℕ) (before after : WaitQueue) : Type 0 where
  pub woken : List Sleeper
  pub left : List Sleeper
  -- the woken are the first ones of those who slept at the address
  pub longest : asleep_at addr before ≡ woken ++ left
  -- as many as the count, or all that slept there
  pub as_many : length woken ≡ min count (length (asleep_at addr before))
  -- the rest still sleep there, in the same order
  pub rest : asleep_at addr after ≡ left
  -- all sleepers but the woken ones still sleep, in the same order
  pub others : after.sleepers ≡ filter (λ (s : Sleeper). not (is_among s.thread woken)) before.sleepers
  -- each one that was woken is answered 0
  pub told : (m : ℕ) → is_among m woken ≡ true → answer_due after m ≡ Some (Number 0)
  -- the notifying thread is answered how many were woken
  pub answer : answer_due after n ≡ Some (Number (length woken))
  -- and nobody else is told anything
  pub quiet : (m : ℕ) → m ≢ n → is_among m woken ≡ false → answer_due after m ≡ answer_due before m

-- A notify within bounds wakes those who have slept longest at its address, as many as it counts.
abbrev pub NotifyWakesTheLongestAsleep : Type 0
NotifyWakesTheLongestAsleep = (history : List Entry) (n addr count : ℕ) (reply : Reply) → reply ≢ OutOfBounds
    → IsQueueLegal (history ++ entry n (Ask (Notify addr count)) reply ∷ [])
    → WakesTheLongestAsleep n addr count (queue_after history)
    (queue_after (history ++ entry n (Ask (Notify addr count)) reply ∷ []))

-- The wait queue after an entry, before it settles.
abbrev pub unsettled : WaitQueue → ℕ → Event → Reply → WaitQueue
unsettled q n (Ask question) OutOfBounds = q
unsettled q n (Ask question) reply = asked q n question (value_of reply)
unsettled q n (Told answer) reply = after_answer q n
unsettled q n _ reply = q

-- The timeout of a sleeper ends: all live threads sleep, it has a positive timeout, and none of the others with one has
-- a lower one, or the same one and a lower number.
pub record TimeoutEnds (q : WaitQueue) (s : Sleeper) : Type 0 where
  pub all_sleep : (m : ℕ) → is_alive q m ≡ true → is_asleep q m ≡ true
  pub positive : 0 < amount s.timeout
  pub first : (t : Sleeper) → Contains q.sleepers t → 0 < amount t.timeout
      → (amount s.timeout < amount t.timeout) ⊎ ((amount s.timeout ≡ amount t.timeout) × (s.thread ≤ t.thread))

-- A thread that sleeps is answered 2 at no other entry than one after which all live threads sleep and its timeout is
-- the first to end. (A wait whose timeout is 0 is answered 2 at once, and never sleeps.)
abbrev pub TimeoutsEndOnlyWhereAllSleep : Type 0
TimeoutsEndOnlyWhereAllSleep = (history : List Entry) (e : Entry) (s : Sleeper) → IsQueueLegal (history ++ e ∷ [])
    → Contains (unsettled (queue_after history) e.thread e.event e.reply).sleepers s
    → answer_due (queue_after (history ++ e ∷ [])) s.thread ≡ Some (Number 2)
    → TimeoutEnds (unsettled (queue_after history) e.thread e.event e.reply) s

-- All live threads sleep, and no sleeper has a positive timeout.
pub record AllSleepForGood (q : WaitQueue) : Type 0 where
  pub all_sleep : (m : ℕ) → is_alive q m ≡ true → is_asleep q m ≡ true
  pub untimed : (t : Sleeper) → Contains q.sleepers t → amount t.timeout ≡ 0

-- A thread that sleeps is told that it sleeps for good at no other entry than one after which all live threads sleep
-- and no timeout is left to end.
abbrev pub ForGoodOnlyWhereNoTimeoutIsLeft : Type 0
ForGoodOnlyWhereNoTimeoutIsLeft = (history : List Entry) (e : Entry) (s : Sleeper) → IsQueueLegal (history ++ e ∷ [])
    → Contains (unsettled (queue_after history) e.thread e.event e.reply).sleepers s
    → answer_due (queue_after (history ++ e ∷ [])) s.thread ≡ Some ForGood
    → AllSleepForGood (unsettled (queue_after history) e.thread e.event e.reply)

-- After no history that the wait queue allows do all live threads sleep: where somebody is alive, somebody alive is
-- awake. So nobody is left asleep whose timeout would have to end, and nobody who would have to be told that it sleeps
-- for good.
abbrev pub SomebodyIsAwake : Type 0
SomebodyIsAwake = (history : List Entry) (m : ℕ) → IsQueueLegal history → is_alive (queue_after history) m ≡ true
    → (n : ℕ) × (is_alive (queue_after history) n ≡ true) × (is_asleep (queue_after history) n ≡ false)

-- Settling after an answer taken would change nothing.
abbrev pub AnswersTakenLeaveItSettled : Type 0
AnswersTakenLeaveItSettled = (history : List Entry) (n : ℕ) → IsQueueLegal history
    → settled (after_answer (queue_after history) n) ≡ after_answer (queue_after history) n

-- Of two histories that begin the same list, one begins the other.
abbrev pub OneHistoryPerLongestList : Type 0
OneHistoryPerLongestList = (longest xs ys : List Entry) → IsPrefix xs longest → IsPrefix ys longest
    → IsPrefix xs ys ⊎ IsPrefix ys xs

-- What begins a legal history is legal.
abbrev pub PrefixesAreLegal : Type 0
PrefixesAreLegal = (opening : Memory) (history longer : List Entry) → IsPrefix history longer → IsLegal opening longer
    → IsLegal opening history
