-- Which entries other threads may read from.
use Rattle.std.specs.Prelude.{ℕ, ◌≡◌, ◌<◌, ◌==◌, ◌&&◌, ◌||◌, Bool, true, false, List, Option, Some, None, option_and_then}
use Rattle.std.specs.List.{slice_get}
use Rattle.types.specs.declared.event.Entry.{Entry}
use Rattle.race_history.specs.declared.access.ThreadAccess.{ThreadAccess}
use Rattle.race_history.specs.declared.access.Site.{Site}
use Rattle.race_history.specs.Accesses.{bytes_of, call_of, pages_of}

abbrev pub access_at : List Entry → List Site → ℕ → Option ThreadAccess
access_at log sites at =
    option_and_then (λ made. option_and_then (bytes_of made) (slice_get sites at)) (slice_get log at)

-- An atomic write, be it of bytes or at another location: whoever reads from it sees what came before it.
abbrev pub tells : Option ThreadAccess → Bool
tells None = false
tells (Some a) = a.atomic && a.writes

-- The entry changes the number of pages: a grow that isn't refused. (A bounds check writes nothing, so that it doesn't
-- matter with how many pages the memory opens.)
abbrev pub changes_pages : Entry → Bool
changes_pages made = tells (pages_of made 0)

-- Some access of the entry is one: an atomic write of bytes, a wait, a notify, a spawn, a grow.
abbrev pub is_write_by : Entry → Site → Bool
is_write_by made site = (tells (bytes_of made site) || tells (call_of made)) || changes_pages made

abbrev pub is_write_of : ℕ → Option Entry → Option Site → Bool
is_write_of thread (Some made) (Some site) = (made.thread == thread) && is_write_by made site
is_write_of thread made site = false

-- The entry at a place is an atomic write of this thread.
abbrev pub is_atomic_write : List Entry → List Site → ℕ → ℕ → Bool
is_atomic_write log sites thread at = is_write_of thread (slice_get log at) (slice_get sites at)

-- The next one behind a place, if there is one.
abbrev pub IsNextWrite : List Entry → List Site → ℕ → ℕ → Option ℕ → Type 0
IsNextWrite log sites thread first None = (k : ℕ) → first < k → is_atomic_write log sites thread k ≡ false
IsNextWrite log sites thread first (Some at) = (first < at) × (is_atomic_write log sites thread at ≡ true)
    × ((k : ℕ) → first < k → k < at → is_atomic_write log sites thread k ≡ false)
