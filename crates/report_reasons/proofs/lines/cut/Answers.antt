use Rattle.std.proofs.lemmas.List.{take_min}
use Rattle.report_reasons.proofs.lines.cut.Goals as goal

pub returns : goal.returns
returns c = rw c.min.ensures (take_min 200 c.args.line.now)
