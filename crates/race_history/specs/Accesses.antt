-- What an entry does: the accesses that it makes, each to a location.
--
-- Beside the bytes of the memory there are three locations. The number of pages is one in the threads proposal ("Memory
-- model"): each bounds check reads it, unordered, and memory.size and memory.grow read and change it in order. A wait and
-- a notify enter the critical section of the list of waiters at their address (ECMAScript, "WaiterList Objects"; threads
-- proposal, "Wait and notify operators"). A spawn takes the next number, which hosts count up atomically (wasi-threads).
-- A timeout makes no access, and neither does the end of a thread.
use Rattle.std.specs.Prelude.{ℕ, zero, suc, ◌≡◌, ◌==◌, ◌+◌, ◌-◌, ◌^◌, ◌<◌, ◌≤◌, ◌++◌, ◌||◌, Bool, true, false, not, min, nat_lt, if◌then◌else◌}
use Rattle.std.specs.Prelude.{Option, Some, None, List, [], ◌∷◌}
use Rattle.std.specs.Option.{option_to_list}
use Rattle.types.specs.declared.event.Entry.{Entry}
use Rattle.types.specs.declared.event.Event.{Event}
use Rattle.types.specs.declared.event.Event.TheVariants.{Size, Grow, Load, Store, Rmw, Cmpxchg, Ask}
use Rattle.types.specs.declared.event.Question.TheVariants.{Wait, Notify, Spawn}
use Rattle.types.specs.declared.event.Reply.{Reply}
use Rattle.types.specs.declared.event.Reply.TheVariants.{Value, OutOfBounds}
use Rattle.race_history.specs.declared.access.ThreadAccess.{ThreadAccess}
use Rattle.race_history.specs.declared.access.Site.{Site}
use Rattle.race_history.specs.declared.access.Location.{Location}
use Rattle.race_history.specs.declared.access.Location.TheVariants.{Bytes, Pages, Waiters, Threads}
use Rattle.race_history.specs.declared.access.AccessKind.{AccessKind}
use Rattle.race_history.specs.declared.access.AccessKind.TheVariants.{Plain, Atomic}

abbrev pub is_out_of_bounds : Reply → Bool
is_out_of_bounds OutOfBounds = true
is_out_of_bounds _ = false

-- The value that was read is this one.
abbrev pub has_value : Reply → ℕ → Bool
has_value (Value v) n = v == n
has_value _ n = false

abbrev pub is_atomic : AccessKind → Bool
is_atomic Plain = false
is_atomic Atomic = true

-- An access counts as atomic that was made by an atomic instruction, or is allowed to race.
abbrev pub is_atomic_by : Site → Bool
is_atomic_by site = is_atomic site.kind || site.is_allowed

-- An access to bytes that reads, and an atomic one that reads and may write.
abbrev pub reading : ℕ → ℕ → ℕ → Bool → ℕ → ThreadAccess
reading n addr width atomic code = record {
  thread = n;
  location = Bytes;
  addr = addr;
  width = width;
  reads = true;
  writes = false;
  atomic = atomic;
  code = code;
}

abbrev pub changing : ℕ → ℕ → ℕ → Bool → ℕ → ThreadAccess
changing n addr width writes code = record {
  thread = n;
  location = Bytes;
  addr = addr;
  width = width;
  reads = true;
  writes = writes;
  atomic = true;
  code = code;
}

-- One that enters the list of waiters at an address, or counts threads.
abbrev pub entering : ℕ → Location → ℕ → ThreadAccess
entering n location addr = record {
  thread = n;
  location = location;
  addr = addr;
  width = 1;
  reads = true;
  writes = true;
  atomic = true;
  code = 0;
}

-- One that reads the number of pages, and may change it.
abbrev pub counting : ℕ → Bool → Bool → ThreadAccess
counting n writes atomic = record {
  thread = n;
  location = Pages;
  addr = 0;
  width = 1;
  reads = true;
  writes = writes;
  atomic = atomic;
  code = 0;
}

-- To bytes, within bounds: a load reads, a store writes, a read-modify-write does both, a compare-exchange writes where
-- it found what it expected, and a wait reads. The last three are atomic whatever their kind says.
abbrev pub bytes_within : ℕ → Event → Reply → Site → Option ThreadAccess
bytes_within n (Load addr width reach) reply site = Some (reading n addr width (is_atomic_by site) site.code)
bytes_within n (Store addr width reach value) reply site =
    Some (record {
      thread = n;
      location = Bytes;
      addr = addr;
      width = width;
      reads = false;
      writes = true;
      atomic = is_atomic_by site;
      code = site.code;
    })
bytes_within n (Rmw op addr width value) reply site = Some (changing n addr width true site.code)
bytes_within n (Cmpxchg addr width expected replacement) reply site =
    Some (changing n addr width (has_value reply expected) site.code)
bytes_within n (Ask (Wait addr width expected timeout)) reply site = Some (reading n addr width true site.code)
bytes_within n _ reply site = None

-- An event that ended past the memory's length touches no byte.
abbrev pub bytes_of : Entry → Site → Option ThreadAccess
bytes_of e site = if is_out_of_bounds e.reply then None else bytes_within e.thread e.event e.reply site

-- A wait and a notify enter the list of waiters at their address, and a spawn counts threads.
abbrev pub call_within : ℕ → Event → Option ThreadAccess
call_within n (Ask (Wait addr width expected timeout)) = Some (entering n Waiters addr)
call_within n (Ask (Notify addr count)) = Some (entering n Waiters addr)
call_within n (Ask (Spawn arg)) = Some (entering n Threads 0)
call_within n _ = None

abbrev pub call_of : Entry → Option ThreadAccess
call_of e = if is_out_of_bounds e.reply then None else call_within e.thread e.event

-- Where the bytes end that a bounds check is for.
abbrev pub end_of : Event → ℕ
end_of (Load addr width reach) = reach
end_of (Store addr width reach value) = reach
end_of (Rmw op addr width value) = addr + width
end_of (Cmpxchg addr width expected replacement) = addr + width
end_of (Ask (Wait addr width expected timeout)) = addr + width
end_of (Ask (Notify addr count)) = addr + 4
end_of _ = 0

-- To the number of pages: memory.size reads it atomically, and memory.grow does and writes it where it isn't refused. A
-- bounds check looks at it, plainly, where its bytes may end behind the opening pages, which are always there. All looks
-- of a thread are the same access, so of those that race with one grow the last is named.
abbrev pub pages_within : ℕ → Event → Reply → ℕ → Option ThreadAccess
pages_within n Size reply opening = Some (counting n false true)
pages_within n (Grow more) reply opening = Some (counting n (not (has_value reply 4294967295)) true)
pages_within n event reply opening = if nat_lt opening (end_of event) then Some (counting n false false) else None

abbrev pub pages_of : Entry → ℕ → Option ThreadAccess
pages_of e opening = pages_within e.thread e.event e.reply opening

-- To one of an access's bytes, so many behind the first (as far as there are addresses): atomic.
abbrev pub one_byte : ThreadAccess → ℕ → ThreadAccess
one_byte a behind = record a { addr = min (a.addr + behind) (2 ^ 64 - 1); width = 1; atomic = true }

-- To each of so many.
abbrev pub each_byte : ThreadAccess → ℕ → List ThreadAccess
each_byte a zero = []
each_byte a (suc more) = each_byte a more ++ one_byte a more ∷ []

-- What an access to bytes is: one, or, where it is allowed to race, one to each of its bytes. These are atomic, so that
-- two of them that meet are of the same byte, and don't race.
abbrev pub judged : Option ThreadAccess → Bool → List ThreadAccess
judged None is_allowed = []
judged (Some a) true = each_byte a a.width
judged (Some a) false = a ∷ []

-- All of an entry's, where the memory opens with pages of so many bytes.
abbrev pub accesses_of : Entry → Site → ℕ → List ThreadAccess
accesses_of e site opening =
    judged (bytes_of e site) site.is_allowed ++ option_to_list (call_of e) ++ option_to_list (pages_of e opening)

abbrev pub HasByte : ThreadAccess → ℕ → Type 0
HasByte a byte = (a.addr ≤ byte) × (byte < a.addr + a.width)

-- Two accesses to one location touch a byte in common.
abbrev pub Meet : ThreadAccess → ThreadAccess → Type 0
Meet a b = (a.location ≡ b.location) × ((byte : ℕ) × (HasByte a byte × HasByte b byte))

-- Both are atomic, of exactly the same bytes of one location.
pub record AreMatched (a b : ThreadAccess) : Type 0 where
  pub first : a.atomic ≡ true
  pub second : b.atomic ≡ true
  pub location : a.location ≡ b.location
  pub addr : a.addr ≡ b.addr
  pub width : a.width ≡ b.width
