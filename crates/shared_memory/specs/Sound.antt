-- What holds of the wait queue after each history that is legal for it.
use Rattle.std.specs.Prelude.{ℕ, ◌≡◌, ◌<◌, ◌≤◌, ◌==◌, true, false, List, [], ◌∷◌, length, Some, None}
use Rattle.std.specs.List.{list_any}
use Rattle.types.specs.declared.event.Answer.{Answer}
use Rattle.types.specs.declared.limits.TheConstants.{MOST_THREADS}
use Rattle.shared_memory.specs.declared.sleeper.Sleeper.{Sleeper}
use Rattle.shared_memory.specs.WaitQueue.{WaitQueue, is_alive, is_among, is_asleep, answer_due, next_id}

-- No number stands twice.
abbrev pub AreDistinct : List ℕ → Type 0
AreDistinct [] = Unit {0}
AreDistinct (n ∷ ns) = (list_any (λ m. m == n) ns ≡ false) × AreDistinct ns

-- No thread sleeps twice.
abbrev pub SleepOnce : List Sleeper → Type 0
SleepOnce [] = Unit {0}
SleepOnce (s ∷ sleepers) = (is_among s.thread sleepers ≡ false) × SleepOnce sleepers

-- The live threads are distinct and their numbers given out, as are those of whom an answer is due to; who sleeps is
-- alive, sleeps once, and is owed no answer. For each number that is given out there is a place in the answers due, and
-- there are at most 64 places.
pub record IsSound (q : WaitQueue) : Type 0 where
  pub named : (n : ℕ) → is_alive q n ≡ true → n < next_id q
  pub distinct : AreDistinct q.alive
  pub living : (n : ℕ) → is_asleep q n ≡ true → is_alive q n ≡ true
  pub once : SleepOnce q.sleepers
  pub unanswered : (n : ℕ) → is_asleep q n ≡ true → answer_due q n ≡ None
  pub owed : (n : ℕ) (a : Answer) → answer_due q n ≡ Some a → n < next_id q
  pub due_length : length q.due ≤ MOST_THREADS
  pub few : length q.args < length q.due
