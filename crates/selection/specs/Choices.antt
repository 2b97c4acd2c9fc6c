-- Which entries of a record are chosen.
use Rattle.std.specs.Prelude.{ℕ, ◌≡◌, ◌+◌, ◌-◌, ◌^◌, ◌<◌, ◌==◌, ◌&&◌, ◌||◌, min, nat_le, not, Bool, true, false, List, length}
use Rattle.std.specs.Prelude.{Option, Some, None}
use Rattle.std.specs.List.{list_any}
use Rattle.types.specs.declared.event.Event.{Event}
use Rattle.types.specs.declared.event.Event.TheVariants.{Load, Store, Rmw, Cmpxchg, Ask}
use Rattle.types.specs.declared.event.Question.TheVariants.{Wait, Notify}
use Rattle.types.specs.declared.event.Entry.{Entry}
use Rattle.selection.specs.declared.choice.NumberSpan.{NumberSpan}
use Rattle.selection.specs.declared.choice.Choice.{Choice}
use Rattle.selection.specs.declared.spans.Spans.{Spans}

-- So many addresses from this one on, as far as there are addresses.
abbrev pub span_of : ℕ → ℕ → NumberSpan
span_of addr count = record { first = addr; last = min (addr + (count - 1)) (2 ^ 64 - 1) }

-- The addresses that an event touches, or at which it waits or wakes.
abbrev pub touched : Event → Option NumberSpan
touched (Load addr width reach) = Some (span_of addr width)
touched (Store addr width reach value) = Some (span_of addr width)
touched (Rmw op addr width value) = Some (span_of addr width)
touched (Cmpxchg addr width expected replacement) = Some (span_of addr width)
touched (Ask (Wait addr width expected timeout)) = Some (span_of addr width)
touched (Ask (Notify addr count)) = Some (span_of addr 1)
touched event = None

abbrev pub has : NumberSpan → ℕ → Bool
has span n = nat_le span.first n && nat_le n span.last

abbrev pub meets : NumberSpan → NumberSpan → Bool
meets a b = nat_le a.first b.last && nat_le b.first a.last

-- A number is in one of them.
abbrev pub some_has : List NumberSpan → ℕ → Bool
some_has spans n = list_any (λ span. has span n) spans

-- One of them has a number in common with this one.
abbrev pub some_meets : List NumberSpan → NumberSpan → Bool
some_meets spans other = list_any (λ span. meets span other) spans

-- A number is in one of these exactly where it is in one of those.
abbrev pub HaveSame : List NumberSpan → List NumberSpan → Type 0
HaveSame these those = (n : ℕ) → some_has these n ≡ some_has those n

-- `None` exactly where no spans are given, else spans with the numbers of those.
abbrev pub AreOfAny : List NumberSpan → Option Spans → Type 0
AreOfAny given None = length given ≡ 0
AreOfAny given (Some all) = (0 < length given) × HaveSame all.spans.items given

-- `None` chooses all lines.
abbrev pub is_chosen_line : Option Spans → ℕ → Bool
is_chosen_line None line = true
is_chosen_line (Some lines) line = some_has lines.spans.items line

-- Where none are given, all threads are chosen.
abbrev pub is_chosen_thread : List ℕ → ℕ → Bool
is_chosen_thread threads thread = (length threads == 0) || list_any (λ n. n == thread) threads

abbrev pub meets_some : List NumberSpan → Option NumberSpan → Bool
meets_some addrs None = false
meets_some addrs (Some touched) = some_meets addrs touched

-- `None` chooses all events, also those at no address.
abbrev pub is_chosen_address : Option Spans → Event → Bool
is_chosen_address None event = true
is_chosen_address (Some addrs) event = meets_some addrs.spans.items (touched event)

-- An event touches one of the addresses that are left out, if some are.
abbrev pub is_left_out : Option Spans → Event → Bool
is_left_out None event = false
is_left_out (Some addrs) event = meets_some addrs.spans.items (touched event)

-- The entry on this line of a record is chosen: by its line, its thread and its addresses.
abbrev pub is_chosen : Choice → ℕ → Entry → Bool
is_chosen choice line entry = is_chosen_line choice.lines line
    && (is_chosen_thread choice.threads.items entry.thread
    && (is_chosen_address choice.addrs entry.event && not (is_left_out choice.left_out entry.event)))
