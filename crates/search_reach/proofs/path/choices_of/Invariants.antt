use Rattle.std.proofs.Common.{take}
use Rattle.search_reach.specs.Moved.{AreChoicesOf}
use Rattle.search_reach.proofs.path.choices_of.Given as goal

abbrev pub invariant-loop-place : goal.invariant-loop-place
invariant-loop-place l = AreChoicesOf l.moves (take l.place-index l.places) l.choices.items
