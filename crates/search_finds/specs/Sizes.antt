-- How large a run is.
use Rattle.std.specs.Prelude.{ℕ, ◌≡◌, ◌+◌, ◌<◌, ◌≤◌, ◌⊎◌, ◌==◌, Bool, true, false, List, [], ◌∷◌}
use Rattle.std.specs.Prelude.{map, filter, length, if◌then◌else◌}
use Rattle.types.specs.declared.event.Entry.{Entry}
use Rattle.types.specs.declared.event.Event.{Event}
use Rattle.types.specs.declared.event.Event.TheVariants as events
use Rattle.replay_text.specs.declared.parts.RecordParts.{RecordParts}
use Rattle.search_finds.specs.declared.size.Size.{Size}

-- A thread makes an event, and takes an answer.
abbrev pub is_made : Event → Bool
is_made (events.Told answer) = false
is_made _ = true

-- The threads of a log's events, in order.
abbrev pub schedule_in : List Entry → List ℕ
schedule_in log = map (λ e. e.thread) (filter (λ e. is_made e.event) log)

-- How often another thread goes on, behind one.
abbrev pub switches_behind : ℕ → List ℕ → ℕ
switches_behind last [] = 0
switches_behind last (n ∷ rest) = (if last == n then 0 else 1) + switches_behind n rest

-- How often another thread goes on.
abbrev pub switches_in : List ℕ → ℕ
switches_in [] = 0
switches_in (n ∷ rest) = switches_behind n rest

-- The size of a recorded run.
abbrev pub size_in : RecordParts → Size
size_in r = record { switches = switches_in (schedule_in r.log); entries = length r.log }

-- Fewer switches are smaller, and of as many switches fewer entries.
abbrev pub IsSmaller : Size → Size → Type 0
IsSmaller a b = (a.switches < b.switches) ⊎ ((a.switches ≡ b.switches) × (a.entries < b.entries))

abbrev pub IsNoLarger : Size → Size → Type 0
IsNoLarger a b = (a.switches < b.switches) ⊎ ((a.switches ≡ b.switches) × (a.entries ≤ b.entries))
