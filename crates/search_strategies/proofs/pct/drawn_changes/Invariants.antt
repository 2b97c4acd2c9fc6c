use Rattle.std.proofs.Common.{◌≡◌, ◌+◌, ◌-◌, ◌++◌, length}
use Rattle.search_strategies.specs.Priorities.{drawn_numbers}
use Rattle.search_strategies.proofs.pct.drawn_changes.Given as goal

abbrev pub invariant-loop : goal.invariant-loop
invariant-loop l = (length l.changes.items + 1 ≡ l.counter)
    × (l.changes.items ++ drawn_numbers (l.depth - l.counter) l.events l.draws ≡ drawn_numbers (l.depth - 1) l.events l.initial.draws)
