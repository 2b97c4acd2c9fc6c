-- The rule of a table of seats: one history, of which the words say something, and each caller has seen a beginning.
use Rattle.std.specs.Prelude.{ℕ, ◌≡◌, ◌≤◌, Bool, List, [], Option}
use Rattle.atomic_table.specs.Table.{State, Me}
use Rattle.atomic_table.specs.declared.shared.Seat.{Seat}
use Rattle.atomic_table.specs.Seated.{TableId}
use Rattle.types.specs.declared.event.Entry.{Entry}
use Rattle.types.specs.declared.event.Event.{Event}
use Rattle.types.specs.declared.event.Reply.{Reply}
use Rattle.types.specs.declared.limits.TheConstants.{DESK_NAME, SEATS}
use Rattle.shared_memory.specs.Memory.{Memory}
use Rattle.shared_memory.specs.Access.{IsSeen, Accesses, Meets, lost_after}
use Rattle.shared_memory_on_table.specs.declared.view.Caller.{Caller}
use Rattle.shared_memory_on_table.specs.declared.view.View.{View}
use Rattle.shared_memory_on_table.specs.Callers.{one_if, fresh_from}
use Rattle.shared_memory_on_table.specs.Moves.{IsOne, caller_in}
use Rattle.shared_memory_on_table.specs.Seating.{AreSeated}

-- There is one history. The words agree with it, as the memory says; one seat is a keeper's at most, if the memory has
-- a keeper, and else none; and each caller has seen a beginning of the history.
pub record Kept (has_keeper : Bool) (agree : List Entry → List ℕ → Type 0) (s : State ℕ View) : Type 0 where
  pub log : List Entry
  pub words : agree log s.words
  pub seated : AreSeated (one_if has_keeper) log s.views

-- A seat on which these callers stand before any entry.
abbrev pub gathered : Bool → List Caller → View
gathered has_keeper callers = record { keeps = has_keeper; log = []; callers = callers }

-- These callers stand on a seat of the table before any entry.
abbrev pub IsGathered : Bool → List Caller → Seat ℕ View → Type 0
IsGathered has_keeper callers seat = seat.me ≡ (gathered has_keeper callers, [])

-- At first all callers stand on one seat.
abbrev pub opened : Bool → View
opened has_keeper = gathered has_keeper (fresh_from SEATS 0)

-- A seat of the table is one caller's alone; that caller has this name, 0 to 64, and has seen a history of the memory.
abbrev pub StandsAlone : TableId → Memory → ℕ → TableId → Me ℕ View → Type 0
StandsAlone table opening name own me =
    (own ≡ table) × IsOne me × (name ≡ (caller_in me.0).name) × IsSeen opening (caller_in me.0).seen
    × (name ≤ DESK_NAME)

-- What a meeting of two callers of one memory leaves both with.
abbrev pub MeetsIn : Memory → Caller → Caller → List Entry → Type 0
MeetsIn opening a b list = Meets opening a.name b.name a.has_queue_right b.has_queue_right a.seen b.seen list

-- Two callers exchange the queue right.
abbrev pub ExchangeRights : Caller → Caller → Caller → Caller → Type 0
ExchangeRights a b a' b' = (a'.has_queue_right ≡ b.has_queue_right) × (b'.has_queue_right ≡ a.has_queue_right)

-- What an access of a caller leaves it with, and answers.
abbrev pub AccessesIn : Bool → Memory → Option ℕ → Caller → Event → List Entry → Reply → Type 0
AccessesIn loses opening limit c event list reply =
    Accesses loses opening limit c.name c.has_queue_right event c.seen list reply

-- One try of an event by a caller: it keeps its name and its queue right, has seen what an access leaves it with, and
-- has lost a try more where the reply says so.
pub record MakesTry (loses : Bool) (opening : Memory) (limit : Option ℕ) (event : Event) (reply : Reply)
    (before after : Caller)
    : Type 0 where
  pub name_is : after.name ≡ before.name
  pub right_is : after.has_queue_right ≡ before.has_queue_right
  pub outcome : AccessesIn loses opening limit before event after.seen reply
  pub lost_is : after.lost ≡ lost_after reply before.lost
