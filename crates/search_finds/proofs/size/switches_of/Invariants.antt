use Rattle.std.proofs.Common.{◌≡◌, ℕ, ◌+◌, ◌≤◌, List, Option, Some, None, drop}
use Rattle.search_finds.specs.Sizes.{schedule_in, switches_in, switches_behind}
use Rattle.search_finds.proofs.size.switches_of.Given as goal

-- How often another thread goes on in a schedule, behind the last one.
abbrev pub switches_on : Option ℕ → List ℕ → ℕ
switches_on None threads = switches_in threads
switches_on (Some last) threads = switches_behind last threads

abbrev pub invariant-loop-entry : goal.invariant-loop-entry
invariant-loop-entry l = (l.switches + switches_on l.last (schedule_in (drop l.entry-index l.log)) ≡ switches_in (schedule_in l.log))
    × (l.switches ≤ l.entry-index)
