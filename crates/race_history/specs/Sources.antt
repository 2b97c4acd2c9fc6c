-- What comes just before.
use Rattle.std.specs.Prelude.{ℕ, zero, suc, ◌≡◌, ◌⊎◌, ◌==◌, nat_lt, if◌then◌else◌}
use Rattle.std.specs.Prelude.{List, map, Contains, Option, Some, None, slice_get}
use Rattle.std.specs.Global.{Vec}
use Rattle.types.specs.declared.event.Entry.{Entry}
use Rattle.race_history.specs.declared.access.Site.{Site}
use Rattle.race_history.specs.Places.{thread_at}
use Rattle.race_history.specs.Order.{IsEdge}

-- The lists in a list.
abbrev pub rows : List (Vec ℕ) → List (List ℕ)
rows lists = map (λ (v : Vec ℕ). v.items) lists

abbrev pub if_before : ℕ → Option ℕ → Option ℕ
if_before place None = None
if_before place (Some start) = if nat_lt start place then Some start else None

-- Where the thread is started, if that is before a place.
abbrev pub start_before : List ℕ → ℕ → ℕ → Option ℕ
start_before starts zero place = None
start_before starts (suc n) place = if_before place (slice_get starts n)

-- The last entry of a thread before a place.
abbrev pub last_of : List Entry → ℕ → ℕ → Option ℕ
last_of log n zero = None
last_of log n (suc place) = if thread_at log place == n then Some place else last_of log n place

-- These happen just before an entry; and whatever does, is one of them, or happens just before one of them.
pub record AreSources (log : List Entry) (sites : List Site) (opening place : ℕ) (here : List ℕ) : Type 0 where
  pub from : (first : ℕ) → Contains here first → IsEdge log sites opening first place
  pub all : (first : ℕ) → IsEdge log sites opening first place
      → (k : ℕ) × (Contains here k × ((first ≡ k) ⊎ IsEdge log sites opening first k))
