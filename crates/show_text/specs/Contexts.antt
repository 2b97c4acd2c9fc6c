-- Which answer of a log is that to which question.
use Rattle.std.specs.Prelude.{ℕ, ◌≡◌, ◌<◌, List, length, Option, Some, None}
use Rattle.std.specs.List.{slice_get}
use Rattle.types.specs.declared.event.Event.{Event}
use Rattle.types.specs.declared.event.Event.TheVariants.{Ask, Told}
use Rattle.types.specs.declared.event.Question.{Question}
use Rattle.types.specs.declared.event.Answer.{Answer}
use Rattle.types.specs.declared.event.Entry.{Entry}
use Rattle.show_text.specs.declared.context.Context.{Context}
use Rattle.show_text.specs.declared.context.Context.TheVariants.{Alone, Answered, Asked}

-- The entry at a place is of this thread, with this event.
abbrev pub IsOf : List Entry → ℕ → ℕ → Event → Type 0
IsOf log thread at event =
    (made : Entry) × (slice_get log at ≡ Some made) × (made.thread ≡ thread) × (made.event ≡ event)

-- It asks, or is told something.
abbrev pub IsCall : Event → Type 0
IsCall (Ask question) = Unit {0}
IsCall (Told answer) = Unit {0}
IsCall event = ⊥

-- Between two places the thread neither asks nor is told anything.
abbrev pub IsQuiet : List Entry → ℕ → ℕ → ℕ → Type 0
IsQuiet log thread from to =
    (at : ℕ) (event : Event) → from < at → at < to → IsOf log thread at event → IsCall event → ⊥

-- A thread's question, and what it is told next.
pub record IsAnswered (log : List Entry) (thread asked told : ℕ) (question : Question) (answer : Answer) : Type 0 where
  pub before : asked < told
  pub asks : IsOf log thread asked (Ask question)
  pub tells : IsOf log thread told (Told answer)
  pub quiet : IsQuiet log thread asked told

-- Of the entry at a place: the answer to what it asks, or the question to which it is an answer, and where that stands;
-- as far as the first `most` entries say, and for so many threads.
abbrev pub IsContext : List Entry → ℕ → ℕ → ℕ → Context → Type 0
IsContext log threads most at (Answered answer) = (thread told : ℕ) × (question : Question) × (thread < threads)
    × (told < most) × IsAnswered log thread at told question answer
IsContext log threads most at (Asked question asked) = (thread : ℕ) × (answer : Answer) × (thread < threads)
    × (at < most) × IsAnswered log thread asked at question answer
IsContext log threads most at Alone = (thread other : ℕ) (question : Question) (answer : Answer) → thread < threads
    → (other < most → IsAnswered log thread at other question answer → ⊥)
    × (at < most → IsAnswered log thread other at question answer → ⊥)

pub record AreContexts (log : List Entry) (threads most : ℕ) (contexts : List Context) : Type 0 where
  pub long : length contexts ≡ length log
  pub each : (at : ℕ) (c : Context) → slice_get contexts at ≡ Some c → IsContext log threads most at c

-- Before the entry with this number the thread has asked at a place, and was told nothing since.
pub record IsOpen (log : List Entry) (thread most asked : ℕ) : Type 0 where
  pub before : asked < most
  pub question : Question
  pub asks : IsOf log thread asked (Ask question)
  pub quiet : IsQuiet log thread asked most

abbrev pub IsOpenAt : List Entry → ℕ → ℕ → Option ℕ → Type 0
IsOpenAt log thread most None = (asked : ℕ) → IsOpen log thread most asked → ⊥
IsOpenAt log thread most (Some asked) = IsOpen log thread most asked

-- Where each of the threads has its open question.
abbrev pub AreOpen : List Entry → ℕ → List (Option ℕ) → Type 0
AreOpen log most places = (thread : ℕ) (asked : Option ℕ) → slice_get places thread ≡ Some asked
    → IsOpenAt log thread most asked

abbrev pub ask_in : Event → Option Question
ask_in (Ask question) = Some question
ask_in event = None
