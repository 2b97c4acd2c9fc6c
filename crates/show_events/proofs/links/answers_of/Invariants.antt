use Rattle.std.proofs.Common.{◌≡◌, length}
use Rattle.show_events.proofs.Answered.{AreKnown}
use Rattle.show_events.proofs.links.answers_of.Given as goal

abbrev pub invariant-loop-at : goal.invariant-loop-at
invariant-loop-at l = record {
  long : length l.answers.items ≡ l.fn.long;
  known : AreKnown l.contexts l.at l.answers.items;
}
