use Rattle.std.proofs.Common.{◌≡◌, ◌+◌}
use Rattle.search_race_free.specs.Choices.{choice_of}
use Rattle.search_race_free.proofs.trace.thread_of.Given as goal

-- Those of the threads that were looked at and can go on are gone from the choice.
abbrev pub invariant-loop-m : goal.invariant-loop-m
invariant-loop-m l = choice_of l.fn.wanted l.m + l.left ≡ l.fn.choice
