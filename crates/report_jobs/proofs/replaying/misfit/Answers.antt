use Rattle.std.proofs.Common.{sym, ◌∙◌}
use Rattle.report_jobs.proofs.Replays.{of_misfit}
use Rattle.report_jobs.proofs.replaying.misfit.Goals as goal

pub returns-in-Line-clause-unfit : goal.returns-in-Line-clause-unfit
returns-in-Line-clause-unfit c = of_misfit c.args.fault (λ is. absurd (cc (sym c.in-Line.is ∙ is)))

pub returns-in-EndLine-clause-unfit : goal.returns-in-EndLine-clause-unfit
returns-in-EndLine-clause-unfit c = of_misfit c.args.fault (λ is. absurd (cc (sym c.in-EndLine.is ∙ is)))
