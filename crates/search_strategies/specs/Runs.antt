-- The strategy of a drawn run, which is a function of its seed and its number.
use Rattle.std.specs.Prelude.{ℕ, List, Option, Some, length, min}
use Rattle.types.specs.declared.event.Event.{Event}
use Rattle.selection.specs.Ways.{way_of}
use Rattle.selection.specs.declared.way.Way.{Way}
use Rattle.selection.specs.declared.way.Way.TheVariants as ways
use Rattle.selection.specs.declared.way.TheConstants.{MOST_DEPTH}
use Rattle.search_strategies.specs.Draws.{draws_of, number_below, behind}
use Rattle.search_strategies.specs.Priorities.{priorities_of, by_priority}
use Rattle.search_strategies.specs.Spinning.{spinning_of, spin, read_at, spin_heard}
use Rattle.search_strategies.specs.declared.drawn.Drawn.{Drawn}
use Rattle.search_strategies.specs.declared.drawn.Drawn.TheVariants as drawn

-- The strategy of the run of this number, of a seed, where points of change lie among so many events.
abbrev pub strategy_by : Way → ℕ → ℕ → ℕ → Drawn
strategy_by ways.Mix seed run count = drawn.Random (draws_of seed run)
strategy_by ways.Random seed run count = drawn.Random (draws_of seed run)
strategy_by (ways.Priorities depth) seed run count = drawn.Priorities (priorities_of seed run (min depth MOST_DEPTH) count)
strategy_by ways.Spin seed run count = drawn.Spin (spinning_of seed run)

abbrev pub strategy_of : Way → ℕ → ℕ → ℕ → Drawn
strategy_of way seed run count = strategy_by (way_of way run) seed run count

-- Whom it names, and what it is then.
abbrev pub drawn_choice : Drawn → List ℕ → Option ℕ × Drawn
drawn_choice (drawn.Random g) ready = (Some (number_below (length ready) g), drawn.Random (behind g))
drawn_choice (drawn.Priorities s) ready = let next = by_priority s ready in (next.0, drawn.Priorities next.1)
drawn_choice (drawn.Spin s) ready = let next = spin s ready in (next.0, drawn.Spin next.1)

-- What it is once it has heard an event.
abbrev pub drawn_heard : Drawn → Event → Drawn
drawn_heard (drawn.Random g) e = drawn.Random g
drawn_heard (drawn.Priorities s) e = drawn.Priorities s
drawn_heard (drawn.Spin s) e = drawn.Spin (spin_heard s (read_at e))
