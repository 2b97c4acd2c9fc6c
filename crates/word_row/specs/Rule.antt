-- The rule of the row of words, and what its steps tell.
use Rattle.std.specs.Prelude.{ℕ, ◌≡◌, ◌+◌, ◌*◌, ◌<◌, ◌≤◌, Bool, true, false, List, [], ◌∷◌, ◌++◌, All, length, Option}
use Rattle.std.specs.Prelude.{Some, None, slice_index}
use Rattle.atomic_table.specs.Table.{State, Me}
use Rattle.atomic_table.specs.Seated.{TableId}
use Rattle.atomic_table.specs.declared.shared.Seat.{Seat}
use Rattle.types.specs.declared.event.Entry.{Entry}
use Rattle.types.specs.declared.event.Event.{Event}
use Rattle.types.specs.declared.event.Event.TheVariants.{Size}
use Rattle.types.specs.declared.event.Reply.{Reply}
use Rattle.types.specs.declared.limits.TheConstants.{DESK_NAME}
use Rattle.shared_memory.specs.Events.{IsEvent, is_of_queue}
use Rattle.shared_memory.specs.Memory.{Memory}
use Rattle.shared_memory.specs.History.{entry, memory_after}
use Rattle.shared_memory.specs.Access.{IsSeen}
use Rattle.shared_memory_on_table.specs.declared.view.Caller.{Caller}
use Rattle.shared_memory_on_table.specs.declared.view.View.{View}
use Rattle.shared_memory_on_table.specs.Callers.{AllGoOn, GoesOn, seeing, losing_if}
use Rattle.shared_memory_on_table.specs.Moves.{IsOne, caller_in, nobody}
use Rattle.shared_memory_on_table.specs.Rule.{Kept}
use Rattle.word_row.specs.Words.{words_of, IsStored}
use Rattle.word_row.specs.Answers.{end_of, place_of, size_answer, word_answer, made_reply, exchange_answer}

-- The words are those of the memory after the history, which is legal for it from its opening on.
pub record Stores (opening : Memory) (log : List Entry) (words : List ℕ) : Type 0 where
  pub stored : IsStored opening
  pub seen : IsSeen opening log
  pub are : words ≡ words_of (memory_after opening log)

-- The rule of the row: there is no keeper.
abbrev pub KeptRow : Memory → State ℕ View → Type 0
KeptRow opening = Kept false (Stores opening)

-- The table of a row under its name: its key is the memory before any entry, which can stand in words, and it has one
-- word for the page count and one for each eight bytes of the maximum.
pub record IsRow (table : TableId) (opening : Memory) (own : TableId) (held : Memory) : Type 0 where
  pub same : own ≡ table
  pub count : own.words ≡ 8192 * opening.max + 1
  pub slots : own.slots ≡ 0
  pub key : held ≡ opening
  pub stored : IsStored opening

-- A seat of the row's table may step on one of its words.
abbrev pub HasWord : Memory → Memory → TableId → TableId → ℕ → Type 0
HasWord opening key table own word = (own ≡ table) × (word < table.words) × (key ≡ opening)

-- An access ends within the memory after what the caller has seen, which leaves this word at a place.
abbrev pub EndsWithin : Memory → Event → Caller → Type 0
EndsWithin opening event c = end_of event ≤ length (memory_after opening c.seen).bytes

abbrev pub LeavesWord : Memory → Caller → ℕ → ℕ → Type 0
LeavesWord opening c place word = slice_index (words_of (memory_after opening c.seen)) place ≡ word

-- A caller comes to a seat of the table, before those that stand there.
abbrev pub TakesIn : TableId → Caller → Seat ℕ View → Seat ℕ View → Type 0
TakesIn table c before after = (after.table_id ≡ table) × (after.me.0.callers ≡ c ∷ before.me.0.callers)

-- All callers have come to a seat: a history that goes on from what is seen there goes on from the list of each.
abbrev pub AllCome : {S : Type 0} → (S → Caller) → List S → Seat ℕ View → Type 0
AllCome caller seats host = (log : List Entry) → AllGoOn host.me.0.callers log → All (λ s. GoesOn (caller s) log) seats

-- What a caller may try: an event that meets its conditions, and one of the queue only with the queue right.
pub record MayTry (c : Caller) (event : Event) : Type 0 where
  pub known : c.name ≤ DESK_NAME
  pub is : IsEvent event
  pub right : is_of_queue event ≡ true → c.has_queue_right ≡ true

-- A caller after a step: it has seen all that was there, and behind it its own entry, if the step settled its reply.
-- Where it settled none, the step may lose the try.
abbrev pub caller_after : Bool → Event → Option Reply → List Entry → Caller → Caller
caller_after loses event None log c = losing_if loses (seeing log c)
caller_after loses event (Some reply) log c = seeing (log ++ entry c.name event reply ∷ []) c

-- One step on one word: the caller has seen the whole history at that point, which leaves the word found there, and
-- its own entry stands behind it, if the word settled the reply.
pub record Steps (opening : Memory) (loses : Bool) (event : Event) (answer : Option Reply) (place : ℕ) (before : Caller)
    (found : ℕ)
    (after : Caller) : Type 0 where
  pub log : List Entry
  pub goes_on : GoesOn before log
  pub list : after ≡ caller_after loses event answer log before
  pub seen : IsSeen opening after.seen
  pub word : slice_index (words_of (memory_after opening log)) place ≡ found

-- The steps of a caller: a load of the page count; a load of the event's word; a compare-exchange of that word, which
-- was to be old, and which loses the try where it isn't made; and a single exchange of it, which is made whatever the
-- word is.
abbrev pub NotesPages : Memory → Event → Caller → ℕ → Caller → Type 0
NotesPages opening event before found after =
    Steps opening false event (size_answer opening.max event found) 0 before found after

abbrev pub ReadsWord : Memory → Event → Caller → ℕ → Caller → Type 0
ReadsWord opening event before found after =
    Steps opening false event (word_answer event found) (place_of event) before found after

abbrev pub ExchangesWord : Memory → Event → ℕ → Caller → ℕ → Caller → Type 0
ExchangesWord opening event old before found after =
    Steps opening true event (exchange_answer event old found) (place_of event) before found after

abbrev pub FetchesWord : Memory → Event → Caller → ℕ → Caller → Type 0
FetchesWord opening event before found after =
    Steps opening false event (Some (made_reply event found)) (place_of event) before found after

-- The same of the seat on which the caller stands alone.
abbrev pub StepsAs : Memory → Bool → Event → Option Reply → ℕ → Me ℕ View → ℕ → Me ℕ View → Type 0
StepsAs opening loses event answer place before found after =
    IsOne after × Steps opening loses event answer place (caller_in before.0) found (caller_in after.0)

-- A load of the size word, a load of a data word, and a compare-exchange of a word that was to be old, which loses the
-- try where it isn't made.
abbrev pub NotesAs : Memory → Event → ℕ → Me ℕ View → ℕ → Me ℕ View → Type 0
NotesAs opening event place before found after =
    StepsAs opening false event (size_answer opening.max event found) place before found after

abbrev pub ReadsAs : Memory → Event → ℕ → Me ℕ View → ℕ → Me ℕ View → Type 0
ReadsAs opening event place before found after =
    StepsAs opening false event (word_answer event found) place before found after

abbrev pub ExchangesAs : Memory → Event → ℕ → ℕ → Me ℕ View → ℕ → Me ℕ View → Type 0
ExchangesAs opening event old place before found after =
    StepsAs opening true event (exchange_answer event old found) place before found after

-- A single exchange of a data word, which is made whatever the word is; and a store of it, which does not tell the word
-- that was there.
abbrev pub FetchesAs : Memory → Event → ℕ → Me ℕ View → ℕ → Me ℕ View → Type 0
FetchesAs opening event place before found after =
    StepsAs opening false event (Some (made_reply event found)) place before found after

abbrev pub StoresAs : Memory → Event → ℕ → Me ℕ View → Me ℕ View → Type 0
StoresAs opening event place before after = (found : ℕ) × FetchesAs opening event place before found after

-- A seat on which nobody stands.
abbrev pub IsEmpty : Me ℕ View → Type 0
IsEmpty m = m.0 ≡ nobody

-- Of nothing.
abbrev pub no_event : Event
no_event = Size
