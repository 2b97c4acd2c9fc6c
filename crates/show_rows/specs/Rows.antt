-- What a row says of a thread, and which rows are made.
use Rattle.std.specs.Prelude.{ℕ, ◌≡◌, ◌+◌, ◌-◌, ◌&&◌, zero, suc, nat_le, if◌then◌else◌, List, length, take, drop}
use Rattle.std.specs.Prelude.{Option, Some, None, option_map, option_and_then, slice_set}
use Rattle.std.specs.List.{slice_get}
use Rattle.types.specs.declared.event.Event.{Event}
use Rattle.types.specs.declared.event.Event.TheVariants.{Load, Store, Rmw, Cmpxchg, Ask}
use Rattle.types.specs.declared.event.Question.TheVariants.{Leave}
use Rattle.types.specs.declared.event.Entry.{Entry}
use Rattle.shared_memory.specs.Numbers.{le_number}
use Rattle.schedule.specs.Machine.{Thread.Runs}
use Rattle.interp_machine.specs.Config.{Config}
use Rattle.interp_machine.specs.State.{At}
use Rattle.interp_state.specs.declared.state.Caller.{Caller}
use Rattle.interp.specs.declared.place.CodePlace.{CodePlace}
use Rattle.interp.specs.declared.thread.Thread.{Thread}
use Rattle.interp.specs.Threads.{StandsFor}
use Rattle.interp.specs.Places.{IsAtPlace, HasCallers}
use Rattle.replay_walk.specs.Seen.{Sight, Sight.Came, Sight.Settled, Sight.Wanted}
use Rattle.show_rows.specs.declared.rows.Row.{Row}
use Rattle.show_rows.specs.declared.rows.Rows.{Rows}

-- The call of a function that goes on behind it.
abbrev pub call_by : Caller → CodePlace
call_by caller = record { function = caller.function; instr = caller.pc - 1 }

-- The call of the last of these functions.
abbrev pub last_call : List Caller → Option CodePlace
last_call callers = option_map call_by (slice_get callers (length callers - 1))

-- The next instruction of each configuration that the thread stands for stands at the row's place, and the row's caller
-- is the call of the last one of the functions that called there, the outermost first.
pub record StandsThere (thread : Thread) (row : Row) : Type 0 where
  pub place : (c : Config) (left : ℕ) → StandsFor thread (Runs (At c) left)
      → IsAtPlace thread.parts.now row.place.function row.place.instr c
  pub callers : List Caller
  pub called : (c : Config) (left : ℕ) → StandsFor thread (Runs (At c) left) → HasCallers thread.parts.now callers c
  pub caller : row.caller ≡ last_call callers

-- The bytes that an event touches: the first one's address, and how many.
abbrev pub touched : Event → Option (ℕ × ℕ)
touched (Load addr width reach) = Some (addr, width)
touched (Store addr width reach value) = Some (addr, width)
touched (Rmw op addr width value) = Some (addr, width)
touched (Cmpxchg addr width expected replacement) = Some (addr, width)
touched event = None

abbrev pub number_in : List ℕ → ℕ × ℕ → Option ℕ
number_in bytes (addr, width) = if nat_le width 8 && nat_le (addr + width) (length bytes)
    then Some (le_number (take width (drop addr bytes))) else None

-- The number in the bytes that an event touches, where they lie within the memory.
abbrev pub number_before : List ℕ → Event → Option ℕ
number_before bytes event = option_and_then (number_in bytes) (touched event)

-- The rows are those before but for this one, which is where the thread stands and what it finds. Behind the last one
-- there is none.
abbrev pub SetsRow : Thread → Option ℕ → ℕ → List (Option Row) → List (Option Row) → Type 0
SetsRow thread before at old new =
    (row : Row) × StandsThere thread row × (row.before ≡ before) × (new ≡ slice_set old at (Some row))

-- Of the thread with a number, if there is one.
abbrev pub SetsRowOf : Option Thread → ℕ → List (Option Row) → List (Option Row) → Type 0
SetsRowOf None at old new = new ≡ old
SetsRowOf (Some thread) at old new = SetsRow thread None at old new

-- An entry has a row where its thread stands among these; where there is no entry nothing changes.
abbrev pub SeesThread : List Thread → Option Entry → ℕ → List (Option Row) → List (Option Row) → Type 0
SeesThread threads None at old new = new ≡ old
SeesThread threads (Some entry) at old new = SetsRowOf (slice_get threads entry.thread) at old new

-- A leave has its row where its thread has ended, and no other entry is seen from behind.
abbrev pub SeesLeft : List Thread → Option Entry → Event → ℕ → List (Option Row) → List (Option Row) → Type 0
SeesLeft threads entry (Ask Leave) at old new = SeesThread threads entry at old new
SeesLeft threads entry event at old new = new ≡ old

abbrev pub SeesBehind : List Thread → Option Entry → ℕ → List (Option Row) → List (Option Row) → Type 0
SeesBehind threads None at old new = new ≡ old
SeesBehind threads (Some entry) at old new = SeesLeft threads (Some entry) entry.event at old new

abbrev pub SeesLast : List Thread → List Entry → ℕ → List (Option Row) → List (Option Row) → Type 0
SeesLast threads log zero old new = new ≡ old
SeesLast threads log (suc last) old new = SeesBehind threads (slice_get log last) last old new

-- Behind so many entries: the next entry is seen where its thread is, and the last one if it is a leave.
pub record SeesRound (old : Rows) (entries : ℕ) (threads : List Thread) (new : Rows) : Type 0 where
  pub log : new.log ≡ old.log
  pub came : new.came ≡ entries
  pub between : List (Option Row)
  pub next : SeesThread threads (slice_get old.log.now entries) entries old.rows.items between
  pub last : SeesLast threads old.log.now entries between new.rows.items

-- The row of the entry that comes next is where the thread stands that wants its event, with the number that is in the
-- bytes then which the event touches; the others stay.
pub record SeesWanted (old : Rows) (event : Event) (thread : Thread) (bytes : List ℕ) (new : Rows) : Type 0 where
  pub log : new.log ≡ old.log
  pub came : new.came ≡ old.came
  pub sets : SetsRow thread (number_before bytes event) old.came old.rows.items new.rows.items

-- What rows make of what they see of a walk.
abbrev pub RowsSee : Rows → Sight Thread → Rows → Type 0
RowsSee old (Came entries walk) new = SeesRound old entries walk.threads.items new
RowsSee old (Settled n turn) new = new ≡ old
RowsSee old (Wanted entry thread memory) new = SeesWanted old entry.event thread memory.bytes new
