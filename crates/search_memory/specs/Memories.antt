-- A memory beside the one that was opened.
use Rattle.std.specs.Prelude.{ℕ, suc, ◌≡◌, ◌≢◌, ◌<◌, ◌≤◌, ◌+◌, ◌-◌, ◌++◌, Bool, nat_lt, nat_le, ◌==◌, if◌then◌else◌, List, [], ◌∷◌, length, take, replicate, fold, slice_set, get_or}
use Rattle.types.specs.declared.event.Event.{Event}
use Rattle.shared_memory.specs.Memory.{Memory, state_after, written}
use Rattle.search_memory.specs.declared.beside.ChangedByte.{ChangedByte}
use Rattle.search_memory.specs.declared.beside.Changes.{Changes}
use Rattle.search_memory.specs.declared.looking.ChangedMemory.{ChangedMemory}

-- So many bytes, which begin as the opening memory's, with zeros behind those.
abbrev pub padded : List ℕ → ℕ → List ℕ
padded opening len = take len opening ++ replicate (len - length opening) 0

abbrev pub with_change : List ℕ → ChangedByte → List ℕ
with_change bytes change = slice_set bytes change.at change.byte

-- The opening memory's first bytes, with these changes.
abbrev pub changed_bytes : List ℕ → ℕ → List ChangedByte → List ℕ
changed_bytes opening len changes = fold with_change (padded opening len) changes

-- The memory with these changes.
abbrev pub memory_of : List ℕ → Changes → Memory
memory_of opening c = record { bytes = changed_bytes opening c.len c.changes.items; max = c.max }

-- The changes are those after this event.
abbrev pub AreAfter : List ℕ → Changes → Event → Changes → Type 0
AreAfter opening before event after = memory_of opening after ≡ state_after (memory_of opening before) event

-- The changes at lower addresses, and the others.
abbrev pub is_below : ℕ → ChangedByte → Bool
is_below at change = nat_lt change.at at

abbrev pub is_since : ℕ → ChangedByte → Bool
is_since at change = nat_le at change.at

-- What changes an opened byte to this one: nothing, where it is the same.
abbrev pub change_to : List ℕ → ℕ → ℕ → List ChangedByte
change_to opening at byte = if byte == get_or opening at 0 then [] else record { at = at; byte = byte } ∷ []

-- So many bytes are those of a list from a place on.
abbrev pub AreFrom : List ℕ → ℕ → List ℕ → ℕ → Type 0
AreFrom bytes width all from = (i : ℕ) → i < width → get_or bytes i 0 ≡ get_or all (from + i) 0

-- The memory that is looked at.
abbrev pub memory_at : ChangedMemory → Memory
memory_at b = memory_of b.opening.now b.changed.now

-- The changes are those once a number is written to so many bytes at an address.
abbrev pub AreWritten : ChangedMemory → ℕ → ℕ → ℕ → Changes → Type 0
AreWritten b addr width value after = memory_of b.opening.now after ≡ written (memory_at b) addr width value

-- A change at an address from one on and before another, of which the byte isn't the one that was opened there.
pub record IsDifference (opening : List ℕ) (from end : ℕ) (change : ChangedByte) : Type 0 where
  pub since : from ≤ change.at
  pub before : change.at < end
  pub other : change.byte ≢ get_or opening change.at 0

-- Such changes, in order of the addresses. A memory has one list of them (`the_same_memories_are_equal`, search_parts).
abbrev pub AreDifferences : List ℕ → ℕ → ℕ → List ChangedByte → Type 0
AreDifferences opening from end [] = Unit {0}
AreDifferences opening from end (c ∷ cs) = IsDifference opening from end c × AreDifferences opening (suc c.at) end cs

-- The changes are what differs, and nothing else.
abbrev pub HasDifferences : List ℕ → Changes → Type 0
HasDifferences opening c = AreDifferences opening 0 c.len c.changes.items

-- It stays so.
abbrev pub StayDifferences : List ℕ → Changes → Changes → Type 0
StayDifferences opening before after = HasDifferences opening before → HasDifferences opening after
