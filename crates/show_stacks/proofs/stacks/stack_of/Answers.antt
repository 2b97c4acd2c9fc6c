use Rattle.std.proofs.lemmas.Result.{IfOk-weaker}
use Rattle.show_stacks.proofs.stacks.stack_of.Goals as goal

pub returns : goal.returns
returns c = IfOk-weaker c.calls_of.result _ _ (λ calls are. record { callers = c.callers.result.now; called = c.callers.ensures; are = are })
    c.calls_of.ensures
