-- What the calls of a shared memory leave of the list of entries that a seat has seen.
use Rattle.std.specs.Prelude.{ℕ, suc, ◌≡◌, ◌≢◌, ◌<◌, ◌≤◌, ◌⊎◌, Bool, true, false, List, [], ◌∷◌, ◌++◌, length, Option}
use Rattle.std.specs.Prelude.{Some, None}
use mathlib.Core.List.{IsPrefix}
use Rattle.types.specs.declared.event.Entry.{Entry}
use Rattle.types.specs.declared.event.Event.{Event}
use Rattle.types.specs.declared.event.Event.TheVariants.{Cmpxchg}
use Rattle.types.specs.declared.event.Reply.{Reply}
use Rattle.types.specs.declared.event.Reply.TheVariants.{Again, Full}
use Rattle.shared_memory.specs.Events.{is_exempt, may_lose}
use Rattle.shared_memory.specs.Memory.{Memory, loaded, touched}
use Rattle.shared_memory.specs.History.{entry, entries_of, of_queue, AreEntries, memory_after}
use Rattle.shared_memory.specs.Legal.{IsMemoryLegal}

-- The list goes on with entries of others; where the seat has the queue right, none of them is of the queue.
pub record Gains (n : ℕ) (has_right : Bool) (before others after : List Entry) : Type 0 where
  pub list : after ≡ before ++ others
  pub apart : entries_of n others ≡ []
  pub quiet : has_right ≡ true → of_queue others ≡ []

-- A list that a seat has seen: legal for the memory, and of entries.
pub record IsSeen (opening : Memory) (history : List Entry) : Type 0 where
  pub legal : IsMemoryLegal opening history
  pub entries : AreEntries history

-- The log has room for an event; a limit holds only some events back.
abbrev pub HasRoom : Option ℕ → Event → List Entry → Type 0
HasRoom None event before = Unit {0}
HasRoom (Some limit) event before = is_exempt event ≡ false → length before < limit

-- The log has reached its limit.
abbrev pub HasReached : Option ℕ → List Entry → Type 0
HasReached None history = ⊥
HasReached (Some limit) history = limit ≤ length history

-- Answered: the list before, entries of others, and last the caller's own entry.
pub record Answers (opening : Memory) (limit : Option ℕ) (n : ℕ) (has_right : Bool) (event : Event) (reply : Reply)
    (before after : List Entry) : Type 0 where
  pub others : List Entry
  pub so_far : List Entry
  pub gains : Gains n has_right before others so_far
  pub list : after ≡ so_far ++ entry n event reply ∷ []
  pub seen : IsSeen opening after
  pub room : HasRoom limit event so_far

-- One of these entries changed what the event touches.
pub record Changes (m : Memory) (event : Event) (others : List Entry) : Type 0 where
  pub front : List Entry
  pub changing : Entry
  pub back : List Entry
  pub among : others ≡ front ++ changing ∷ back
  pub changed : touched (memory_after m (front ++ changing ∷ [])) event ≢ touched (memory_after m front) event

-- The expected value of a compare-exchange was there at some point.
pub record WasThere (m : Memory) (addr width expected : ℕ) (others : List Entry) : Type 0 where
  pub front : List Entry
  pub back : List Entry
  pub among : others ≡ front ++ back
  pub found : loaded (memory_after m front) addr width ≡ expected

abbrev pub WasExpected : Memory → Event → List Entry → Type 0
WasExpected m (Cmpxchg addr width expected replacement) others = WasThere m addr width expected others
WasExpected m _ others = Unit {0}

-- Lost: nothing of the caller is entered, and an entry of another changed what the event touches.
pub record LosesTry (loses : Bool) (opening : Memory) (n : ℕ) (has_right : Bool) (event : Event)
    (before after : List Entry) : Type 0 where
  pub others : List Entry
  pub gains : Gains n has_right before others after
  pub seen : IsSeen opening after
  pub may : loses ≡ true
  pub kind : may_lose event ≡ true
  pub cause : Changes (memory_after opening before) event others
  pub expected : WasExpected (memory_after opening before) event others

-- Full: nothing of the caller is entered, and the list seen has reached the limit.
pub record IsFull (opening : Memory) (limit : Option ℕ) (n : ℕ) (has_right : Bool) (event : Event)
    (before after : List Entry) : Type 0 where
  pub others : List Entry
  pub gains : Gains n has_right before others after
  pub seen : IsSeen opening after
  pub kind : is_exempt event ≡ false
  pub reached : HasReached limit after

-- What a call of access leaves, by its reply.
abbrev pub Accesses : Bool → Memory → Option ℕ → ℕ → Bool → Event → List Entry → List Entry → Reply → Type 0
Accesses loses opening limit n has_right event before after Again =
    LosesTry loses opening n has_right event before after
Accesses loses opening limit n has_right event before after Full = IsFull opening limit n has_right event before after
Accesses loses opening limit n has_right event before after reply =
    Answers opening limit n has_right event reply before after

-- How many tries of a seat were lost, after a call of access: one more where it answers that the try was lost. So a
-- call makes one try, and none that it keeps to itself.
abbrev pub lost_after : Reply → ℕ → ℕ
lost_after Again lost = suc lost
lost_after _ lost = lost

-- A meeting: both have the longer of their lists, which begins with the other and holds of either's name what that
-- seat had entered; it adds nothing of the queue to the list of the one with the queue right.
pub record Meets (opening : Memory) (m n : ℕ) (right_a right_b : Bool) (a b both : List Entry) : Type 0 where
  pub longer : (both ≡ a) ⊎ (both ≡ b)
  pub begins_a : IsPrefix a both
  pub begins_b : IsPrefix b both
  pub own_a : entries_of m both ≡ entries_of m a
  pub own_b : entries_of n both ≡ entries_of n b
  pub quiet_a : right_a ≡ true → of_queue both ≡ of_queue a
  pub quiet_b : right_b ≡ true → of_queue both ≡ of_queue b
  pub seen : IsSeen opening both
