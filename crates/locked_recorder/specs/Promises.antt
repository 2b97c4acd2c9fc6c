-- What the recorder promises of its log.
use Rattle.std.specs.Prelude.{ℕ, ◌+◌, ◌≤◌, ◌≡◌, ◌&&◌, Bool, true, false, not, nat_le, if◌then◌else◌, List, [], ◌∷◌}
use Rattle.std.specs.Prelude.{◌++◌, length}
use mathlib.Core.List.{IsPrefix}
use Rattle.atomic_table.specs.Table.{Me}
use Rattle.atomic_table.specs.Seated.{TableId}
use Rattle.types.specs.declared.event.Entry.{Entry}
use Rattle.types.specs.declared.event.Event.{Event}
use Rattle.types.specs.declared.event.Reply.{Reply}
use Rattle.types.specs.declared.event.Reply.TheVariants.{Full}
use Rattle.types.specs.declared.limits.TheConstants.{MOST_PAGES, SEATS, PAST_LIMIT, MOST_LIMIT}
use Rattle.shared_memory.specs.Events.{is_exempt}
use Rattle.shared_memory.specs.Memory.{Memory, pages}
use Rattle.shared_memory.specs.History.{entries_of, memory_after}
use Rattle.shared_memory.specs.Legal.{IsQueueLegal}
use Rattle.shared_memory.specs.Access.{IsSeen}
use Rattle.shared_memory_sequential.specs.Opening.{can_open}
use Rattle.shared_memory_on_table.specs.declared.view.Caller.{Caller}
use Rattle.shared_memory_on_table.specs.declared.view.View.{View}
use Rattle.shared_memory_on_table.specs.Moves.{keeper}
use Rattle.shared_memory_on_table.specs.Names.{MemoryName}
use Rattle.shared_memory_on_table.specs.Rule.{opened}
use Rattle.locked_recorder.specs.Room.{HasSpare}

-- A log's limit is 1 to 1,000,000 entries, and its memory one that can be opened.
abbrev pub can_record : List ℕ → ℕ → ℕ → Bool
can_record image max limit = nat_le 1 limit && nat_le limit MOST_LIMIT && can_open image max

abbrev pub is_full : Reply → Bool
is_full Full = true
is_full _ = false

-- The log holds the event back: it has as many entries as its limit or more, and the event isn't one that it still
-- takes.
abbrev pub is_held : ℕ → Event → List Entry → Bool
is_held limit event log = not (is_exempt event) && nat_le limit (length log)

-- The log after a call: one entry longer, unless it was full.
abbrev pub log_after : Bool → List Entry → Entry → List Entry
log_after full log e = if full then log else log ++ e ∷ []

-- What lies under the lock: the memory is the one after the log, the log is legal for the memory and for the wait
-- queue, and it has room for what may still come, and for no entry more than its limit lets in.
pub record KeepsLog (opening : Memory) (limit : ℕ) (capacity : ℕ) (memory : Memory) (log : List Entry) : Type 0 where
  pub after : memory ≡ memory_after opening log
  pub seen : IsSeen opening log
  pub queue : IsQueueLegal log
  pub spare : HasSpare limit log
  pub reserved : capacity ≡ limit + PAST_LIMIT
  pub small : limit ≤ MOST_LIMIT

-- A keeper logs for the memory with this table, opening and limit: its seat of that table knows the log, and no caller
-- stands there; it has that limit; and the memory and the log, whose room is the capacity, are kept.
abbrev pub Logs : TableId → Memory → ℕ → TableId → Me ℕ View → ℕ → ℕ → Memory → List Entry → Type 0
Logs table opening limit own me held capacity memory log =
    (own ≡ table) × (me ≡ (keeper log [], [])) × (held ≡ limit) × KeepsLog opening held capacity memory log

-- A recorder that has no name yet: all callers stand on the keeper's seat of its table of one word, and the empty log
-- has room for all that its limit lets in, and for no more.
abbrev pub IsPrepared : TableId → TableId → Me ℕ View → ℕ → ℕ → List Entry → Type 0
IsPrepared table own me limit capacity log =
    (own ≡ table) × (me ≡ (opened true, [])) × (table.words ≡ 1) × (limit ≤ MOST_LIMIT) × (log ≡ [])
    × (capacity ≡ limit + PAST_LIMIT)

-- It is to record the accesses of a memory of these bytes and at most so many pages, by a log with this limit.
abbrev pub IsOpenedFrom : List ℕ → ℕ → ℕ → MemoryName → Type 0
IsOpenedFrom image max limit name = (name.opening ≡ record { bytes = image; max = max }) × (name.limit ≡ limit)

-- A caller's list begins the log, which has no other entry of its name.
pub record Begins (c : Caller) (log : List Entry) : Type 0 where
  pub begins : IsPrefix c.seen log
  pub own : entries_of c.name log ≡ entries_of c.name c.seen

-- What is left of a run: a log that is legal for the memory and for the wait queue, of entries of the names 0 to 64
-- alone, and the page count and the bytes after it.
pub record IsRecord (opening : Memory) (log : List Entry) (count : ℕ) (contents : List ℕ) : Type 0 where
  pub seen : IsSeen opening log
  pub queue : IsQueueLegal log
  pub others : (n : ℕ) → SEATS ≤ n → entries_of n log ≡ []
  pub pages_after : count ≡ pages (memory_after opening log)
  pub bytes_after : contents ≡ (memory_after opening log).bytes

-- What no run passes: 192 entries above the limit, and 256 pages.
pub record IsBounded (limit : ℕ) (log : List Entry) (count : ℕ) : Type 0 where
  pub room : length log ≤ limit + PAST_LIMIT
  pub small : count ≤ MOST_PAGES
