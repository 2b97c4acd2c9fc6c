-- The ending of a run, by what it left.
use Rattle.std.specs.Prelude.{ℕ, ◌≡◌}
use Rattle.spawn_host.specs.declared.end.EndState.{EndState}
use Rattle.search_endings.specs.Endings.{Ending, reported_ending}

-- How its threads ended, whatever they have spent, the page count, and the first bytes of the memory.
abbrev pub ending_left : ℕ → EndState → Ending
ending_left dump end = reported_ending dump end.threads.items end.pages end.bytes.items

-- Two runs end alike.
abbrev pub HaveOneEnding : ℕ → EndState → EndState → Type 0
HaveOneEnding dump x y = ending_left dump x ≡ ending_left dump y
