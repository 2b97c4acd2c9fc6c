use Rattle.std.proofs.Common.{take}
use Rattle.show_race_words.specs.Stacks.{AreStackPlaces}
use Rattle.show_race_words.proofs.stacks.stack_places.Given as goal

abbrev pub invariant-loop-at : goal.invariant-loop-at
invariant-loop-at l = AreStackPlaces l.shown (take l.at l.pairs) l.places.items
