-- What a row is before it has a name, and after its threads; and what a seat remembers of its page count.
use Rattle.std.specs.Prelude.{ℕ, ◌≡◌, ◌≤◌, false, List, []}
use Rattle.atomic_table.specs.Table.{Me}
use Rattle.atomic_table.specs.Seated.{TableId}
use Rattle.types.specs.declared.event.Entry.{Entry}
use Rattle.shared_memory.specs.Memory.{Memory, pages}
use Rattle.shared_memory.specs.History.{memory_after}
use Rattle.shared_memory.specs.Access.{IsSeen}
use Rattle.shared_memory_on_table.specs.declared.view.View.{View}
use Rattle.shared_memory_on_table.specs.Rule.{opened}
use Rattle.word_row.specs.Words.{memory_of, words_of, IsStored}
use Rattle.word_row.specs.Rule.{IsRow}

-- All callers stand on one seat of the row's table, which has the words for a memory of so many pages at most.
abbrev pub IsPrepared : TableId → Memory → TableId → Me ℕ View → ℕ → Type 0
IsPrepared table opening own me max =
    (own ≡ table) × (me ≡ (opened false, [])) × IsRow table opening table opening × (max ≡ opening.max)

-- The words are those of the memory for which they stand, one of so many pages at most that can stand in words.
abbrev pub StandFor : ℕ → List ℕ → Type 0
StandFor max words = (words ≡ words_of (memory_of max words)) × IsStored (memory_of max words)

-- There is one history, which fits what callers have seen of it, is legal for the memory from its opening on, and
-- leaves this memory.
abbrev pub EndsAfter : Memory → (List Entry → Type 0) → Memory → Type 0
EndsAfter opening Fits memory = (log : List Entry) × Fits log × IsSeen opening log × (memory ≡ memory_after opening log)

-- A history leaves a memory of so many pages at least.
abbrev pub HasPages : Memory → List Entry → ℕ → Type 0
HasPages opening log count = count ≤ pages (memory_after opening log)
