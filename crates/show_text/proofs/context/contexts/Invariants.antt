use Rattle.std.proofs.Common.{◌≡◌, length}
use Rattle.show_text.specs.Contexts.{AreContexts, AreOpen}
use Rattle.show_text.proofs.context.contexts.Given as goal

abbrev pub invariant-loop-at : goal.invariant-loop-at
invariant-loop-at l = record {
  threads : length l.asked.places.items ≡ l.fn.threads;
  opens : AreOpen l.fn.log l.at l.asked.places.items;
  contexts : AreContexts l.fn.log l.fn.threads l.at l.contexts.items;
}
