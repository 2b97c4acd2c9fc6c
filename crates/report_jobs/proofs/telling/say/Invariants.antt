use Rattle.report_jobs.proofs.Said.{Telling}
use Rattle.report_jobs.proofs.telling.say.Given as goal

abbrev pub invariant-loop : goal.invariant-loop
invariant-loop g l = Telling (g.E.Write.contents l.initial.err) (g.E.Write.contents l.err) l.text l.rest
