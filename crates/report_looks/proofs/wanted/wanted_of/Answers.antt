use Rattle.std.proofs.lemmas.Result.{IfOk-weaker}
use Rattle.report_looks.proofs.wanted.wanted_of.Goals as goal

pub returns-in-Moment-clause-wanted : goal.returns-in-Moment-clause-wanted
returns-in-Moment-clause-wanted c =
    rw c.in-Moment.is (IfOk-weaker c.moment_of.result _ _ (λ w is. is c.args.map.now) c.moment_of.ensures.wanted)
