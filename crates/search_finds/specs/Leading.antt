-- Where the events of a path end in a log.
use Rattle.std.specs.Prelude.{ℕ, ◌≡◌, ◌≤◌, List, filter, length, take, true, Some}
use Rattle.std.specs.List.{slice_get}
use Rattle.types.specs.declared.event.Entry.{Entry}
use Rattle.search_finds.specs.Sizes.{is_made}

-- How many events are among the first entries, so many.
abbrev pub events_among : List Entry → ℕ → ℕ
events_among log count = length (filter (λ e. is_made e.event) (take count log))

-- So many entries at the front have at most so many events; and the entry behind them, where there is one, is the event
-- behind as many.
pub record LeadsTo (log : List Entry) (events count : ℕ) : Type 0 where
  pub within : count ≤ length log
  pub few : events_among log count ≤ events
  pub next : (e : Entry) → slice_get log count ≡ Some e → (is_made e.event ≡ true) × (events_among log count ≡ events)
