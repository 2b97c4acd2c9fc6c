use Rattle.search_scheduled.specs.Heard.{StaysHeard}
use Rattle.search_scheduled.proofs.Answers.{HeardBelow}
use Rattle.search_scheduled.proofs.course.Course.hear_all.Given as goal

abbrev pub invariant-loop-n : goal.invariant-loop-n
invariant-loop-n g l = HeardBelow g.T.TakesTurns.meaning l.n l.initial.self l.self
    × StaysHeard g.T.TakesTurns.meaning g.E.Ear.hears l.initial.self l.initial.ear l.self l.ear
