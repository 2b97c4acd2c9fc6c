use Rattle.std.proofs.Common.{◌≡◌, ◌==◌, not, filter, rules}
use Rattle.arrayvec.proofs.ArrayVecLemmas.{filter-from_retain}
use Rattle.shared_memory.proofs.Soundness.{IsSound-leaves}
use Rattle.waiters.proofs.queue.Queue.leave.Goals as goal

pub invariant_of-self : goal.invariant_of-self
invariant_of-self c =
    let left : c.retain.new.self.items ≡ filter (λ m. not (m == c.args.thread)) c.self.inside.alive.items =
    filter-from_retain _ _ _ (λ x b f' y called. search rules) _ _ c.retain.ensures.filtered in
    let awake = rw (← c.self.view_is) at c.requires in
    rw left (IsSound-leaves _ c.args.thread awake c.self.invariant)

pub returns : goal.returns
returns c =
    let left : c.retain.new.self.items ≡ filter (λ m. not (m == c.args.thread)) c.self.inside.alive.items =
    filter-from_retain _ _ _ (λ x b f' y called. search rules) _ _ c.retain.ensures.filtered in
    rw (← c.self.view_is, left)
