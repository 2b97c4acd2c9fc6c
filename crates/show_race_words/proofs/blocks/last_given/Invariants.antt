use Rattle.show_race_words.specs.Blocks.{IsLastGiven}
use Rattle.show_race_words.proofs.blocks.last_given.Given as goal

abbrev pub invariant-loop-at : goal.invariant-loop-at
invariant-loop-at l = IsLastGiven l.shown l.byte l.at l.last
