-- The writes that reads read from.
use Rattle.std.specs.Prelude.{ℕ, ◌≡◌, ◌<◌, ◌&&◌, ◌++◌, nat_lt, if◌then◌else◌, List, [], length, Contains, slice_index_or}
use Rattle.std.specs.Prelude.{Option, Some, None}
use Rattle.std.specs.List.{fold}
use Rattle.std.specs.Option.{option_to_list}
use Rattle.types.specs.declared.event.Entry.{Entry}
use Rattle.race_history.specs.declared.access.ThreadAccess.{ThreadAccess}
use Rattle.race_history.specs.declared.access.Site.{Site}
use Rattle.race_history.specs.declared.lasts.Last.{Last}
use Rattle.race_history.specs.Lasts.{list_for}
use Rattle.race_history.specs.Order.{ReadsFrom}
use Rattle.race_history.specs.Tests.{touches, are_matched}

abbrev pub later_of : Last → Option Last → Option Last
later_of x None = Some x
later_of x (Some y) = if nat_lt x.place y.place then Some y else Some x

-- The later one of an access and the latest before it, of those that write a byte of this access.
abbrev pub later : ThreadAccess → Option Last → Last → Option Last
later a latest x = if x.access.writes && touches x.access a then later_of x latest else latest

-- The place of the write that the access reads from, if it is an atomic read of just the bytes of the latest.
abbrev pub from_latest : ThreadAccess → Option Last → Option ℕ
from_latest a None = None
from_latest a (Some x) = if a.reads && are_matched x.access a then Some x.place else None

abbrev pub read_from : List Last → ThreadAccess → Option ℕ
read_from list a = from_latest a (fold (later a) None list)

-- The places of the writes that these accesses read from.
abbrev pub with_writer : List (List Last) → List ℕ → ThreadAccess → List ℕ
with_writer lists found a = found ++ option_to_list (read_from (list_for lists a.addr) a)

abbrev pub writers_in : List (List Last) → List ThreadAccess → List ℕ
writers_in lists accesses = fold (with_writer lists) [] accesses

-- Of each entry before a place, the writes that it reads from.
pub record AreWriters (log : List Entry) (sites : List Site) (opening end : ℕ) (writers : List (List ℕ)) : Type 0 where
  pub count : length writers ≡ end
  pub from : (first second : ℕ) → Contains (slice_index_or writers second []) first
      → ReadsFrom log sites opening first second
  pub all : (first second : ℕ) → second < end → ReadsFrom log sites opening first second
      → Contains (slice_index_or writers second []) first
