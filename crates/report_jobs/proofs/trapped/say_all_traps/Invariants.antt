use Rattle.report_jobs.proofs.Trapping.{IsLeft}
use Rattle.report_jobs.proofs.trapped.say_all_traps.Given as goal

abbrev pub invariant-loop-thread : goal.invariant-loop-thread
invariant-loop-thread g l =
    IsLeft l.reports l.thread (g.E.Write.contents l.initial.err) (g.E.Write.contents l.err)
