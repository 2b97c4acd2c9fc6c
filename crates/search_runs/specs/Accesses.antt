-- What a thread of a module does with the memory by its event.
use Rattle.std.specs.Prelude.{ℕ, ℤ, pos, ◌+◌, ◌^◌, ◌==◌, ◌&&◌, ◌||◌, Bool, true, false, not, nat_le, int_lt, length, if◌then◌else◌}
use Rattle.allowed_races.specs.declared.allowed.Allowed.{Allowed}
use Rattle.allowed_races.specs.Bytes.{has_bytes}
use Rattle.types.specs.declared.event.Event.{Event}
use Rattle.types.specs.declared.event.Event.TheVariants.{Size, Grow, Load, Store, Rmw, Cmpxchg, Ask, Told}
use Rattle.types.specs.declared.event.Question.TheVariants.{Wait, Notify, Spawn, Leave}
use Rattle.types.specs.declared.instr.Instr.{Instr}
use Rattle.types.specs.declared.instr.Instr.TheVariants as instrs
use Rattle.types.specs.declared.instr.PlainInstr.{PlainInstr}
use Rattle.types.specs.declared.instr.PlainInstr.TheVariants as plain
use Rattle.types.specs.Nesting.{Code, Empty, Then, BlockThen, LoopThen, IfThen, IfElseThen}
use Rattle.shared_memory.specs.Memory.{Memory, loaded, can_grow}
use Rattle.schedule_threads.specs.Shared.{Shared}
use Rattle.interp_machine.specs.Config.{Config}
use Rattle.interp_machine.specs.State.{State, At, Over}
use Rattle.search_threads.specs.Unlimited.{Unlimited.Missing, Unlimited.Going, Unlimited.Leaving, Unlimited.Away}
use Rattle.search_settled.specs.declared.access.NextAccess.{NextAccess}
use Rattle.search_runs.specs.Called.{Walker}

-- The next instruction is a load or a store that isn't atomic.
abbrev pub is_plain_op : PlainInstr → Bool
is_plain_op (plain.Load op arg) = true
is_plain_op (plain.Store w arg) = true
is_plain_op _ = false

abbrev pub is_plain_instr : Instr → Bool
is_plain_instr (instrs.Plain op) = is_plain_op op
is_plain_instr _ = false

abbrev pub is_plain_code : Code → Bool
is_plain_code Empty = false
is_plain_code (Then op rest) = is_plain_op op
is_plain_code (BlockThen t body rest) = false
is_plain_code (LoopThen t body rest) = false
is_plain_code (IfThen t first rest) = false
is_plain_code (IfElseThen t first second rest) = false

abbrev pub is_plain_at : State → Bool
is_plain_at (At c) = is_plain_code c.frame.code
is_plain_at (Over outcome) = false

abbrev pub is_plain : Walker → Bool
is_plain Missing = false
is_plain (Going c) = is_plain_at c
is_plain (Leaving o) = false
is_plain (Away o) = false

-- It touches no byte.
abbrev pub no_bytes : NextAccess
no_bytes = record {
  plain = false;
  reads = false;
  writes = false;
  is_conditional = false;
  is_timed = false;
  is_allowed = false;
  addr = 0;
  width = 0;
}

-- What looks how many pages there are, and may find more behind a growth: it reads a byte that no memory has. (The length
-- of a memory is a location, which a test of bounds reads without any order: threads proposal, "Memory model".)
abbrev pub look : NextAccess
look = record {
  plain = false;
  reads = true;
  writes = false;
  is_conditional = false;
  is_timed = false;
  is_allowed = false;
  addr = 2 ^ 32;
  width = 1;
}

-- A growth that succeeds writes all that lies behind the opening pages, that byte among it: so it conflicts with each
-- access that passes them, and with each look. Growths of one memory are atomic, of the same bytes.
abbrev pub growth : ℕ → NextAccess
growth opening = record {
  plain = false;
  reads = true;
  writes = true;
  is_conditional = false;
  is_timed = false;
  is_allowed = false;
  addr = opening;
  width = 2 ^ 32 + 1;
}

-- A load or a store, whose whole access ends there and whose bytes lie before that, is plain or atomic; one out of bounds
-- looks, since it passes the opening pages too.
abbrev pub in_bounds : Memory → Bool → Bool → Bool → Bool → ℕ → ℕ → ℕ → NextAccess
in_bounds m plain reads writes is_conditional addr width reach =
    if nat_le reach (length m.bytes)
    then record {
      plain = plain && nat_le (addr + width) reach;
      reads = reads;
      writes = writes;
      is_conditional = is_conditional;
      is_timed = false;
      is_allowed = false;
      addr = addr;
      width = width;
    }
    else look

-- A wait whose timeout is positive has one: it may end by its time. One of 0 ends at once, and a negative one never.
abbrev pub with_timeout : ℤ → NextAccess → NextAccess
with_timeout timeout a = record a { is_timed = int_lt (pos 0) timeout }

-- A load reads, and a store writes. A read-modify-write does both; a compare-exchange reads, and writes exactly where
-- what it expects is there: its writing hangs on what it finds, as that of no other event. A wait reads. These three are
-- atomic. A notify touches no byte, and looks where its four bytes pass the opening ones. (All calls at one list of
-- waiters are in its order, growths and sizes in theirs, and spawns in theirs: none of these races.)
abbrev pub access_by : ℕ → Memory → Bool → Event → NextAccess
access_by opening m plain Size = no_bytes
access_by opening m plain (Grow more) = if can_grow m more then growth opening else no_bytes
access_by opening m plain (Load addr width reach) = in_bounds m plain true false false addr width reach
access_by opening m plain (Store addr width reach value) = in_bounds m plain false true false addr width reach
access_by opening m plain (Rmw op addr width value) = in_bounds m false true true false addr width (addr + width)
access_by opening m plain (Cmpxchg addr width expected replacement) =
    in_bounds m false true (loaded m addr width == expected) true addr width (addr + width)
access_by opening m plain (Ask (Wait addr width expected timeout)) =
    with_timeout timeout (in_bounds m false true false false addr width (addr + width))
access_by opening m plain (Ask (Notify addr count)) = if nat_le (addr + 4) opening then no_bytes else look
access_by opening m plain (Ask (Spawn arg)) = no_bytes
access_by opening m plain (Ask Leave) = no_bytes
access_by opening m plain (Told answer) = no_bytes

-- It is to bytes that a memory can have. (Growths and looks pass these.)
abbrev pub is_to_bytes : NextAccess → Bool
is_to_bytes a = nat_le (a.addr + a.width) (2 ^ 32)

-- All its bytes may race.
abbrev pub may_race : Allowed → NextAccess → Bool
may_race allowed a = is_to_bytes a && has_bytes allowed a.addr a.width

-- Where all its bytes may race it isn't plain, as if it were atomic; and such accesses may meet, or, where mixed accesses
-- may race, all to bytes that aren't plain.
abbrev pub judged : Allowed → NextAccess → NextAccess
judged allowed a = record a {
  plain = a.plain && not (may_race allowed a);
  is_allowed = may_race allowed a || (allowed.mixed && is_to_bytes a);
}

-- Of a memory that opens with so many bytes, where so much may race.
abbrev pub access_of : Allowed → ℕ → Shared → Walker → Event → NextAccess
access_of allowed opening x t e = judged allowed (access_by opening x.memory (is_plain t) e)
