-- What a memory's calls leave of its seats.
use Rattle.std.specs.Prelude.{ℕ, ◌≡◌, List}
use Rattle.types.specs.declared.event.Entry.{Entry}
use Rattle.shared_memory.specs.Access.{Meets}
use Rattle.shared_memory.specs.declared.memory.SharedMemory.{Ghosts}

-- It is the same caller's seat: its name and its queue right stay.
pub record IsSameSeat {M S : Type 0} (m : Ghosts M S) (before after : S) : Type 0 where
  pub name_is : m.name after ≡ m.name before
  pub right_is : m.has_queue_right after ≡ m.has_queue_right before

-- A seat stays as it is, but for what it has seen: its name, its queue right, and how many of its tries were lost.
pub record SeatStays {M S : Type 0} (m : Ghosts M S) (before after : S) : Type 0 where
  pub same : IsSameSeat m before after
  pub lost_is : m.lost after ≡ m.lost before

-- Two seats meet, and have seen this list then.
abbrev pub SeatsMeet : {M S : Type 0} → Ghosts M S → S → S → List Entry → Type 0
SeatsMeet m a b both =
    Meets m.opening (m.name a) (m.name b) (m.has_queue_right a) (m.has_queue_right b) (m.seen a) (m.seen b) both
