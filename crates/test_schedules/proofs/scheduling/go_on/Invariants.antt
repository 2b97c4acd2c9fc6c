use Rattle.schedule_program.specs.Runs.{IsSomewhere}
use Rattle.test_schedules.proofs.scheduling.go_on.Given as goal

abbrev pub invariant-turns : goal.invariant-turns
invariant-turns g l = let m = g.T.TakesTurns in IsSomewhere m.meaning l.machine
