use Rattle.std.proofs.Common.{◌∙◌, ap}
use mathlib.Core.List.{reverse}
use Rattle.std.proofs.lemmas.List.{reverse-reverse}
use Rattle.std.proofs.lemmas.Iterator.Adapters.{YieldsList-from_rev_slice}
use Rattle.std.proofs.lemmas.Iterator.Consumers.{YieldsList-end}
use Rattle.shared_memory.specs.WaitQueue.{first_to_end}
use Rattle.waiters.proofs.waking.first_to_end.Goals as goal

pub returns : goal.returns
returns c =
    let t = YieldsList-end (YieldsList-from_rev_slice c.args.sleepers.now (cc)) c.loop-s.yielded _ c.loop-s.yielded_by _ _ c.in-None.is c.next.ensures.steps in
    c.loop-s.invariant ∙ ap (λ xs. first_to_end (reverse xs)) t.0 ∙ ap first_to_end (reverse-reverse c.args.sleepers.now)
