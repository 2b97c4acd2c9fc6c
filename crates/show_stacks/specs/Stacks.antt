-- The calls that are kept of some entries of a log.
use Rattle.std.specs.Prelude.{ℕ, ◌≡◌, ◌==◌, true, false, List, [], map, reverse, flat_map, position}
use Rattle.std.specs.Prelude.{Option, Some, None, option_map, option_and_then, unwrap_or, slice_set}
use Rattle.std.specs.List.{slice_get}
use Rattle.std.specs.Global.{Vec}
use Rattle.schedule.specs.Machine.{Thread.Runs}
use Rattle.interp_machine.specs.Config.{Config}
use Rattle.interp_machine.specs.State.{At}
use Rattle.interp_state.specs.declared.state.Caller.{Caller}
use Rattle.interp.specs.declared.place.CodePlace.{CodePlace}
use Rattle.interp.specs.declared.thread.Thread.{Thread}
use Rattle.interp.specs.Threads.{StandsFor}
use Rattle.interp.specs.Places.{HasCallers}
use Rattle.replay_walk.specs.Seen.{Sight, Sight.Came, Sight.Settled, Sight.Wanted}
use Rattle.show_rows.specs.declared.rows.Row.{Row}
use Rattle.show_rows.specs.Rows.{call_by}
use Rattle.show_stacks.specs.declared.stacks.EntryStacks.{EntryStacks}
use Rattle.show_stacks.specs.declared.stacks.StackWatch.{StackWatch}

-- The lists.
abbrev pub lists : List (Vec CodePlace) → List (List CodePlace)
lists all = map (λ (v : Vec CodePlace). v.items) all

-- The number of the first of these places that is this one.
abbrev pub seat_of : List ℕ → ℕ → Option ℕ
seat_of places at = position (λ place. place == at) places

-- The calls with this number; none where there are none with it.
abbrev pub calls_in : List (Vec CodePlace) → Option ℕ → List CodePlace
calls_in all seat = unwrap_or (option_map (λ (v : Vec CodePlace). v.items) (option_and_then (slice_get all) seat)) []

-- The calls of the entry at a place; none where the place isn't among those.
abbrev pub calls_at : EntryStacks → ℕ → List CodePlace
calls_at s at = calls_in s.calls.items (seat_of s.places.items at)

-- The row of a call.
abbrev pub row_of : CodePlace → Option Row
row_of call = Some (record { place = call; caller = None; before = None })

-- A row for each call, in order.
abbrev pub rows_of : EntryStacks → List (Option Row)
rows_of s = flat_map (λ (v : Vec CodePlace). map row_of v.items) s.calls.items

-- The calls of functions that are open, of which the outermost is the first: the innermost first.
abbrev pub calls_of : List Caller → List CodePlace
calls_of callers = reverse (map call_by callers)

-- In each configuration that the thread stands for, these are the calls of all functions that called there, the innermost
-- first.
pub record HasCalls (thread : Thread) (calls : List CodePlace) : Type 0 where
  pub callers : List Caller
  pub called : (c : Config) (left : ℕ) → StandsFor thread (Runs (At c) left) → HasCallers thread.parts.now callers c
  pub are : calls ≡ calls_of callers

-- The calls are those before but for those with this number, which are those of the thread.
pub record SetsCalls (thread : Thread) (seat : ℕ) (old new : List (Vec CodePlace)) : Type 0 where
  pub calls : Vec CodePlace
  pub has : HasCalls thread calls.items
  pub sets : new ≡ slice_set old seat calls

-- Where there is no number, nothing changes.
abbrev pub SetsAny : Thread → Option ℕ → List (Vec CodePlace) → List (Vec CodePlace) → Type 0
SetsAny thread None old new = new ≡ old
SetsAny thread (Some seat) old new = SetsCalls thread seat old new

-- The entry that comes next has the calls of the thread that wants it, where its place is among those, and the others
-- stay; or memory was refused, which isn't forgotten.
pub record SeesWanted (old : StackWatch) (thread : Thread) (new : StackWatch) : Type 0 where
  pub places : new.stacks.places ≡ old.stacks.places
  pub came : new.came ≡ old.came
  pub short : old.is_short ≡ true → new.is_short ≡ true
  pub sets : new.is_short ≡ false
      → SetsAny thread (seat_of old.stacks.places.items old.came) old.stacks.calls.items new.stacks.calls.items

-- What stacks make of what they see of a walk.
abbrev pub StacksSee : StackWatch → Sight Thread → StackWatch → Type 0
StacksSee old (Came entries walk) new = new ≡ record old { came = entries }
StacksSee old (Settled n turn) new = new ≡ old
StacksSee old (Wanted entry thread memory) new = SeesWanted old thread new
