-- What is tested of two accesses.
use Rattle.std.specs.Prelude.{ℕ, ◌-◌, ◌==◌, ◌&&◌, ◌||◌, Bool, not, nat_le, nat_lt, if◌then◌else◌}
use Rattle.std.proofs.Math.Bool.{beq}
use Rattle.race_history.specs.declared.access.ThreadAccess.{ThreadAccess}
use Rattle.race_history.specs.declared.access.Location.{Location}
use Rattle.race_history.specs.declared.access.Location.TheVariants.{Bytes, Pages, Waiters, Threads}

abbrev pub location_number : Location → ℕ
location_number Bytes = 0
location_number Pages = 1
location_number Waiters = 2
location_number Threads = 3

abbrev pub are_alike : Location → Location → Bool
are_alike a b = location_number a == location_number b

abbrev pub overlap : ThreadAccess → ThreadAccess → Bool
overlap a b =
    if nat_le a.addr b.addr then nat_lt (b.addr - a.addr) a.width else nat_lt (a.addr - b.addr) b.width

-- They touch a byte in common.
abbrev pub touches : ThreadAccess → ThreadAccess → Bool
touches a b = are_alike a.location b.location && overlap a b

abbrev pub are_matched : ThreadAccess → ThreadAccess → Bool
are_matched a b =
    a.atomic && b.atomic && are_alike a.location b.location && (a.addr == b.addr) && (a.width == b.width)

abbrev pub conflicts : ThreadAccess → ThreadAccess → Bool
conflicts a b = not (a.thread == b.thread) && touches a b && (a.writes || b.writes) && not (are_matched a b)

abbrev pub is_same : ThreadAccess → ThreadAccess → Bool
is_same a b =
    (a.code == b.code) && (a.thread == b.thread) && are_alike a.location b.location && (a.addr == b.addr)
    && (a.width == b.width) && beq a.reads b.reads && beq a.writes b.writes && beq a.atomic b.atomic
