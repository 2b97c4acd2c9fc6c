-- What a view becomes where callers go, come and meet.
use Rattle.std.specs.Prelude.{ℕ, ◌≡◌, nat_lt, if◌then◌else◌, true, false, List, [], ◌∷◌, ◌++◌, length}
use Rattle.atomic_table.specs.Table.{Me}
use Rattle.atomic_table.specs.declared.shared.Seat.{Seat}
use Rattle.types.specs.declared.event.Entry.{Entry}
use Rattle.shared_memory_on_table.specs.declared.view.Caller.{Caller}
use Rattle.shared_memory_on_table.specs.declared.view.View.{View}
use Rattle.shared_memory_on_table.specs.Callers.{GoesOn, head_of, seeing}

-- A seat of the table becomes what it is after a move: it stays of that table, and knows this.
abbrev pub SeatBecomes : Seat ℕ View → Seat ℕ View → Me ℕ View → Type 0
SeatBecomes before after me = (after.table_id ≡ before.table_id) × (after.me ≡ me)

-- A spent seat's view, a caller's, and the keeper's.
abbrev pub nobody : View
nobody = record { keeps = false; log = []; callers = [] }

abbrev pub alone : Caller → View
alone c = record { keeps = false; log = []; callers = c ∷ [] }

abbrev pub keeper : List Entry → List Caller → View
keeper log callers = record { keeps = true; log = log; callers = callers }

-- The caller on a seat.
abbrev pub caller_in : View → Caller
caller_in v = head_of v.callers

-- The seat is one caller's alone, and the keeper's with no caller.
abbrev pub IsOne : Me ℕ View → Type 0
IsOne m = m ≡ (alone (caller_in m.0), [])

abbrev pub IsKeeper : Me ℕ View → Type 0
IsKeeper m = m ≡ (keeper m.0.log [], [])

abbrev pub first_of : List Caller → List Caller
first_of [] = []
first_of (c ∷ callers) = c ∷ []

abbrev pub others_of : List Caller → List Caller
others_of [] = []
others_of (c ∷ callers) = callers

abbrev pub others_stay : View → View
others_stay v = record { keeps = v.keeps; log = v.log; callers = others_of v.callers }

abbrev pub first_goes : View → View
first_goes v = record { keeps = false; log = []; callers = first_of v.callers }

abbrev pub together : View → View → View
together v w = record { keeps = v.keeps; log = v.log; callers = w.callers ++ v.callers }

-- The longer of two lists; where they are equally long, the second.
abbrev pub longer : List Entry → List Entry → List Entry
longer xs ys = if nat_lt (length ys) (length xs) then xs else ys

-- What a caller is after a meeting: it has seen the longer list, and has the other's queue right.
abbrev pub meeting : Caller → Caller → List Entry → Caller
meeting c other list = record { name = c.name; has_queue_right = other.has_queue_right; seen = list; lost = c.lost }

abbrev pub met_callers : List Caller → List Caller
met_callers [] = []
met_callers (a ∷ []) = a ∷ []
met_callers (a ∷ b ∷ callers) = meeting a b (longer a.seen b.seen) ∷ meeting b a (longer a.seen b.seen) ∷ callers

abbrev pub met : View → View
met v = record { keeps = v.keeps; log = v.log; callers = met_callers v.callers }

-- The longer list goes on from what either has seen.
abbrev pub BothGoOn : List Caller → Type 0
BothGoOn [] = Unit {0}
BothGoOn (a ∷ []) = Unit {0}
BothGoOn (a ∷ b ∷ callers) = GoesOn a (longer a.seen b.seen) × GoesOn b (longer a.seen b.seen)

-- What a meeting tells the seat on which two callers stand.
abbrev pub MeetsAs : Me ℕ View → Me ℕ View → Type 0
MeetsAs before after = (after.0 ≡ met before.0) × (after.1 ≡ before.1) × BothGoOn before.0.callers

-- The longer of the lists that the callers of two seats have seen; where they are equally long, the first's.
abbrev pub longest : Me ℕ View → Me ℕ View → List Entry
longest a b = longer (caller_in b.0).seen (caller_in a.0).seen

-- A seat of one caller after its meeting with another's, by which both have seen this list.
abbrev pub after_meeting : Me ℕ View → Me ℕ View → List Entry → Me ℕ View
after_meeting m other list = (alone (meeting (caller_in m.0) (caller_in other.0) list), [])

-- A seat of one caller, when that has seen this list.
abbrev pub sees : List Entry → Me ℕ View → Me ℕ View
sees list m = (alone (seeing list (caller_in m.0)), [])
