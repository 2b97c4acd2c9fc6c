use Rattle.show_race_words.specs.Written.{SaysRace}
use Rattle.show_rows.proofs.Texts.{AreWritten}
use Rattle.show_race_words.proofs.writing.write_each.Given as goal

abbrev pub invariant-loop-at : goal.invariant-loop-at
invariant-loop-at g l = AreWritten (SaysRace l.shown l.map l.story l.stacks l.sites) l.pairs l.at (g.W.Write.contents l.initial.out)
    (g.W.Write.contents l.out)
