use Rattle.std.proofs.Common.{arith, ◌∷◌, [], length-append}
use Rattle.shared_memory.proofs.Soundness.{IsSound-sleeps}
use Rattle.shared_memory.proofs.Few.{few_asleep}
use Rattle.waiters.proofs.queue.Queue.sleep.Goals as goal

pub push-requires : goal.push-requires
push-requires c =
    let free = rw (← c.self.view_is) at c.requires in
    let after = IsSound-sleeps _ c.args.s free c.self.invariant in
    omega (arith, few_asleep _ after, length-append c.self.inside.sleepers.items (c.args.s ∷ []))

pub invariant_of-self : goal.invariant_of-self
invariant_of-self c =
    let free = rw (← c.self.view_is) at c.requires in
    rw c.push.ensures.items (IsSound-sleeps _ c.args.s free c.self.invariant)
