use Rattle.std.proofs.Common.{refl, arith}
use Rattle.report_runs.proofs.recording.check_limit.Goals as goal

pub returns-then-limit-eq0-clause-past : goal.returns-then-limit-eq0-clause-past
returns-then-limit-eq0-clause-past c = ((λ range. let low = range.0 in let high = range.1 in omega arith), refl)
