-- Histories: lists of entries, and what of them belongs to whom.
use Rattle.std.specs.Prelude.{ℕ, ◌≤◌, ◌==◌, List, [], ◌∷◌, All}
use Rattle.std.specs.List.{filter}
use Rattle.types.specs.declared.event.Entry.{Entry}
use Rattle.types.specs.declared.event.Event.{Event}
use Rattle.types.specs.declared.event.Event.TheVariants.{Ask, Told}
use Rattle.types.specs.declared.event.Reply.{Reply}
use Rattle.types.specs.declared.event.Reply.TheVariants.{Value, OutOfBounds}
use Rattle.types.specs.declared.limits.TheConstants.{MOST_THREADS, DESK_NAME}
use Rattle.shared_memory.specs.Events.{IsEvent, is_of_queue}
use Rattle.shared_memory.specs.Memory.{Memory, state_after}
use Rattle.shared_memory.specs.WaitQueue.{WaitQueue, first_queue, after_question, after_answer}

abbrev pub entry : ℕ → Event → Reply → Entry
entry n event reply = record { thread = n; event = event; reply = reply }

-- The entries of one thread, in order.
abbrev pub entries_of : ℕ → List Entry → List Entry
entries_of n history = filter (λ (e : Entry). e.thread == n) history

-- The questions and the answers taken, in order.
abbrev pub of_queue : List Entry → List Entry
of_queue history = filter (λ (e : Entry). is_of_queue e.event) history

-- An entry is of one of 65 names, of which the last is the desk's, and its event meets the conditions on events.
pub record IsEntry (e : Entry) : Type 0 where
  pub named : e.thread ≤ DESK_NAME
  pub event : IsEvent e.event

abbrev pub AreEntries : List Entry → Type 0
AreEntries history = All IsEntry history

-- The sequential memory after a history.
abbrev pub memory_after : Memory → List Entry → Memory
memory_after m [] = m
memory_after m (e ∷ history) = memory_after (state_after m e.event) history

-- The value that a question loaded.
abbrev pub value_of : Reply → ℕ
value_of (Value v) = v
value_of _ = 0

-- The wait queue after an entry: it moves at questions within bounds, and at answers taken. A question out of bounds
-- has its answer in its reply, and is never open.
abbrev pub queue_step : WaitQueue → ℕ → Event → Reply → WaitQueue
queue_step q n (Ask question) OutOfBounds = q
queue_step q n (Ask question) reply = after_question q n question (value_of reply)
queue_step q n (Told answer) reply = after_answer q n
queue_step q n _ reply = q

abbrev pub queue_from : WaitQueue → List Entry → WaitQueue
queue_from q [] = q
queue_from q (e ∷ history) = queue_from (queue_step q e.thread e.event e.reply) history

-- The wait queue after a history.
unfoldable pub queue_after : List Entry → WaitQueue
queue_after history = queue_from (first_queue MOST_THREADS) (of_queue history)
