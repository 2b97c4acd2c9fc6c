use Rattle.std.proofs.Common.{◌≡◌, ◌≤◌}
use Rattle.search_race_free.specs.Choices.{choice_of}
use Rattle.search_race_free.proofs.trace.choice_of.Given as goal

-- So many of the threads that were looked at can go on.
abbrev pub invariant-loop-m : goal.invariant-loop-m
invariant-loop-m l = (l.choice ≤ l.m) × (l.choice ≡ choice_of l.fn.wanted l.m)
