use Rattle.std.proofs.Common.{◌≤◌, length}
use Rattle.search_scheduled.specs.Courses.{StaysOnItsRuns, IsLed}
use Rattle.search_scheduled.specs.Heard.{StaysHeard}
use Rattle.search_scheduled.proofs.course.Course.go.Given as goal

abbrev pub invariant-loop : goal.invariant-loop
invariant-loop g l = StaysOnItsRuns g.T.TakesTurns.meaning l.initial.self l.self
    × IsLed g.T.TakesTurns.meaning g.S.Strategy.chooses g.S.Strategy.hears l.initial.self l.initial.strategy l.self l.strategy
    × (l.counter ≤ length l.self.log.items)
    × StaysHeard g.T.TakesTurns.meaning g.E.Ear.hears l.initial.self l.initial.ear l.self l.ear
