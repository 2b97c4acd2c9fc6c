use Rattle.std.proofs.Common.{◌≤◌, length}
use Rattle.show_races.proofs.Firsts.{AreFirsts}
use Rattle.show_races.proofs.found.find_firsts.Given as goal

abbrev pub invariant-loop-at : goal.invariant-loop-at
invariant-loop-at l = record {
  firsts : AreFirsts l.shown l.story l.all l.at l.pairs.items;
  few : length l.pairs.items ≤ l.most;
}
