use Rattle.std.proofs.Common.{◌≤◌, ◌-◌}
use Rattle.search_reach.proofs.Choosing.{AreFrom}
use Rattle.search_reach.proofs.path.choice_of.Given as goal

abbrev pub invariant-loop-choice : goal.invariant-loop-choice
invariant-loop-choice l = record {
  low : l.choice ≤ l.place;
  are : AreFrom l.moves l.place l.m.from l.choice;
}

abbrev pub decreases-loop-choice : goal.decreases-loop-choice
decreases-loop-choice l = l.place - l.choice
