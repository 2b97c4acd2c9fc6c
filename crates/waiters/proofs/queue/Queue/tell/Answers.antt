use Rattle.std.proofs.Common.{List, Option, Some, sym, subst, set}
use Rattle.std.proofs.lemmas.List.{length-set}
use Rattle.waiters.proofs.Woken.{refill_same}
use Rattle.types.specs.declared.event.Answer.{Answer}
use Rattle.shared_memory.specs.Sound.{IsSound}
use Rattle.shared_memory.proofs.Soundness.{IsSound-tells}
use Rattle.waiters.proofs.queue.Queue.tell.Goals as goal

pub invariant_of-self : goal.invariant_of-self
invariant_of-self c =
    let q = c.self.inside in
    let known = rw (← c.self.view_is) at c.requires.known in
    let awake = rw (← c.self.view_is) at c.requires.awake in
    rw (c.as_mut_slice.ensures.value)
    (subst (λ (due : List (Option Answer)). IsSound (record { alive = q.alive.items; sleepers = q.sleepers.items; due = due; args = q.args.items }))
    (sym (refill_same q.due.items (set q.due.items c.args.thread (Some c.args.answer)) (length-set q.due.items c.args.thread (Some c.args.answer))))
    (IsSound-tells _ c.args.thread c.args.answer awake known c.self.invariant))
