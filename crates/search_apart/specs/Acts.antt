-- What a turn of a module's thread does, as data, and which two of these don't go together.
use Rattle.std.specs.Prelude.{ℕ, ◌+◌, ◌==◌, ◌&&◌, ◌||◌, Bool, true, false, not, nat_lt, nat_le}
use Rattle.std.specs.Prelude.{if◌then◌else◌}
use Rattle.allowed_races.specs.declared.allowed.Allowed.{Allowed}
use Rattle.types.specs.declared.event.Event.{Event}
use Rattle.types.specs.declared.event.Event.TheVariants.{Size, Grow, Load, Store, Rmw, Cmpxchg, Ask, Told}
use Rattle.types.specs.declared.event.Question.TheVariants.{Wait, Notify, Spawn, Leave}
use Rattle.shared_memory.specs.Memory.{Memory, can_grow}
use Rattle.schedule_threads.specs.Shared.{Shared}
use Rattle.search_settled.specs.declared.access.NextAccess.{NextAccess}
use Rattle.search_race_free.specs.Wanted.{own_turn}
use Rattle.search_runs.specs.Called.{Walker}
use Rattle.search_runs.specs.Accesses.{no_bytes, access_of}

-- Beside its access: nothing; it makes the memory grow; it waits at an address or notifies there, each in the list of
-- waiters of this address (threads proposal, "Wait and notify operators"); or it spawns. A thread that sleeps at an
-- address makes no turn: what it does stands for what wakes it.
pub data Deed : Type 0 where
  Nothing : Deed
  Grows : Deed
  Waits : ℕ → Deed
  Notifies : ℕ → Deed
  Spawns : Deed
  Sleeps : ℕ → Deed

-- `access`: its bytes, and whether it is plain, reads and writes, as the searches have it. `looks`: the memory's length
-- may tell in it, since it asks for the page count or ends past the opening pages.
pub record Act : Type 0 where
  pub access : NextAccess
  pub looks : Bool
  pub deed : Deed

-- A turn of a thread's own, which touches nothing.
abbrev pub own_act : Act
own_act = record { access = own_turn; looks = false; deed = Nothing }

-- What wakes who sleeps at an address is a notify there; what starts a thread is a spawn.
abbrev pub wakes_at : ℕ → Act
wakes_at addr = record { access = no_bytes; looks = false; deed = Sleeps addr }

abbrev pub starts_it : Act
starts_it = record { access = no_bytes; looks = false; deed = Spawns }

-- Of a memory that opens with so many bytes. (A part of an access is tested for the bounds of the whole.)
abbrev pub looks_past : ℕ → Event → Bool
looks_past opening Size = true
looks_past opening (Grow more) = true
looks_past opening (Load addr width reach) = nat_lt opening reach
looks_past opening (Store addr width reach value) = nat_lt opening reach
looks_past opening (Rmw op addr width value) = nat_lt opening (addr + width)
looks_past opening (Cmpxchg addr width expected replacement) = nat_lt opening (addr + width)
looks_past opening (Ask (Wait addr width expected timeout)) = nat_lt opening (addr + width)
looks_past opening (Ask (Notify addr count)) = nat_lt opening (addr + 4)
looks_past opening (Ask (Spawn arg)) = false
looks_past opening (Ask Leave) = false
looks_past opening (Told answer) = false

-- A growth that fails changes nothing.
abbrev pub deed_of : Memory → Event → Deed
deed_of m Size = Nothing
deed_of m (Grow more) = if can_grow m more then Grows else Nothing
deed_of m (Load addr width reach) = Nothing
deed_of m (Store addr width reach value) = Nothing
deed_of m (Rmw op addr width value) = Nothing
deed_of m (Cmpxchg addr width expected replacement) = Nothing
deed_of m (Ask (Wait addr width expected timeout)) = Waits addr
deed_of m (Ask (Notify addr count)) = Notifies addr
deed_of m (Ask (Spawn arg)) = Spawns
deed_of m (Ask Leave) = Nothing
deed_of m (Told answer) = Nothing

-- What a thread does by its event, where this is shared and so much may race.
abbrev pub act_by : Allowed → ℕ → Shared → Walker → Event → Act
act_by allowed opening x t e = record {
  access = access_of allowed opening x t e;
  looks = looks_past opening e;
  deed = deed_of x.memory e;
}

-- It is plain as the searches have it. But the first part of an access that ends past the opening pages isn't, where
-- its own bytes lie before their end: whether it traps hangs on growths, of which its bytes say nothing.
abbrev pub is_plain_act : ℕ → Act → Bool
is_plain_act opening a = a.access.plain && (not a.looks || nat_le opening a.access.addr)

-- The two ranges have a byte in common.
abbrev pub have_common : ℕ → ℕ → ℕ → ℕ → Bool
have_common a w b v = (nat_lt 0 w && nat_lt 0 v) && (nat_lt a (b + v) && nat_lt b (a + w))

-- Two accesses touch a byte in common, and one of them writes.
abbrev pub accesses_conflict : NextAccess → NextAccess → Bool
accesses_conflict a b = have_common a.addr a.width b.addr b.width && (a.writes || b.writes)

-- The page count is as a growth makes it: so a growth conflicts with what it may tell in.
abbrev pub grows : Deed → Bool
grows Nothing = false
grows Grows = true
grows (Waits addr) = false
grows (Notifies addr) = false
grows Spawns = false
grows (Sleeps addr) = false

-- Whom a notify wakes hangs on who came to the list before: so calls at one list conflict. And so do spawns, since they
-- give out the numbers of threads in turn.
abbrev pub deeds_conflict : Deed → Deed → Bool
deeds_conflict (Waits a) (Waits b) = a == b
deeds_conflict (Waits a) (Notifies b) = a == b
deeds_conflict (Notifies a) (Waits b) = a == b
deeds_conflict (Notifies a) (Notifies b) = a == b
deeds_conflict (Notifies a) (Sleeps b) = a == b
deeds_conflict (Sleeps a) (Notifies b) = a == b
deeds_conflict Spawns Spawns = true
deeds_conflict _ _ = false

abbrev pub acts_conflict : Act → Act → Bool
acts_conflict a b =
    (accesses_conflict a.access b.access || deeds_conflict a.deed b.deed)
    || ((grows a.deed && b.looks) || (grows b.deed && a.looks))
