-- Exchanges with the wait queue: the questions of a thread and the answers that it took.
use Rattle.std.specs.Prelude.{ℕ, ◌≡◌, ◌||◌, Bool, true, false, List, [], ◌∷◌}
use Rattle.std.specs.List.{filter}
use Rattle.types.specs.declared.event.Entry.{Entry}
use Rattle.types.specs.declared.event.Event.{Event}
use Rattle.types.specs.declared.event.Event.TheVariants.{Ask, Told}
use Rattle.types.specs.declared.event.Reply.{Reply}
use Rattle.types.specs.declared.event.Reply.TheVariants.{OutOfBounds}
use Rattle.shared_memory.specs.History.{entries_of}

-- A question that the wait queue has to answer. One out of bounds has its answer in its reply.
abbrev pub is_question : Event → Reply → Bool
is_question (Ask question) OutOfBounds = false
is_question (Ask question) reply = true
is_question _ reply = false

-- An answer that a thread took.
abbrev pub is_answer : Event → Bool
is_answer (Told answer) = true
is_answer _ = false

abbrev pub is_exchange : Entry → Bool
is_exchange e = is_question e.event e.reply || is_answer e.event

-- The questions of one thread and the answers that it took, in order.
abbrev pub exchanges_of : ℕ → List Entry → List Entry
exchanges_of n history = filter (λ (e : Entry). is_exchange e) (entries_of n history)

-- A question comes first, behind each question stands an answer, and behind each answer a question; the last question
-- may be without one.
abbrev pub Alternate : List Entry → Type 0
Alternate [] = Unit {0}
Alternate (q ∷ []) = is_question q.event q.reply ≡ true
Alternate (q ∷ a ∷ exchanges) = (is_question q.event q.reply ≡ true) × (is_answer a.event ≡ true) × Alternate exchanges

-- The last question is without an answer.
abbrev pub lacks_an_answer : List Entry → Bool
lacks_an_answer [] = false
lacks_an_answer (q ∷ []) = true
lacks_an_answer (q ∷ a ∷ exchanges) = lacks_an_answer exchanges
