use Rattle.schedule_program.specs.Runs.{IsSomewhere}
use Rattle.test_schedules.proofs.scheduling.schedule_of.Given as goal

abbrev pub invariant-loop-entry : goal.invariant-loop-entry
invariant-loop-entry g l = let m = g.T.TakesTurns in IsSomewhere m.meaning l.machine
