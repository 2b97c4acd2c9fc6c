use Rattle.std.proofs.Common.{List, Option, [], sym, subst, ap}
use Rattle.types.specs.declared.event.Answer.{Answer}
use Rattle.types.specs.declared.event.Answer.TheVariants.{ForGood}
use Rattle.shared_memory.specs.declared.sleeper.Sleeper.{Sleeper}
use Rattle.shared_memory.specs.WaitQueue.{due_after}
use Rattle.shared_memory.specs.Sound.{IsSound}
use Rattle.shared_memory.proofs.Sleepers.{length-due_after}
use Rattle.shared_memory.proofs.Soundness.{IsSound-wakes}
use Rattle.waiters.proofs.Woken.{numbered_from, none_left, refill_same}
use Rattle.waiters.proofs.queue.Queue.wake_all.Goals as goal

pub tell_each-requires : goal.tell_each-requires
tell_each-requires c = rw (c.as_slice.ensures.value, c.as_mut_slice.ensures.value) (numbered_from _ c.self.invariant c.self.inside.sleepers.items
    (λ n among. among))

pub invariant_of-self : goal.invariant_of-self
invariant_of-self c =
    let q = c.self.inside in
    let all : List Sleeper = q.sleepers.items in
    rw (c.clear.ensures, c.tell_each.ensures, c.as_slice.ensures.value, c.as_mut_slice.ensures.value)
    (subst (λ (due : List (Option Answer)). IsSound (record { alive = q.alive.items; sleepers = []; due = due; args = q.args.items }))
    (sym (refill_same q.due.items (due_after all ForGood q.due.items) (length-due_after all ForGood q.due.items)))
    (subst (λ (w : List Sleeper). IsSound (record { alive = q.alive.items; sleepers = w; due = due_after all ForGood q.due.items; args = q.args.items }))
    (none_left all) (IsSound-wakes _ all ForGood (λ n among. among) c.self.invariant)))

pub returns : goal.returns
returns c =
    let q = c.self.inside in
    let all : List Sleeper = q.sleepers.items in
    rw (← c.self.view_is, none_left c.self.inside.sleepers.items, c.clear.ensures, c.tell_each.ensures, c.as_slice.ensures.value, c.as_mut_slice.ensures.value)
    (ap (λ (due : List (Option Answer)). record { alive = q.alive.items; sleepers = []; due = due; args = q.args.items })
    (refill_same q.due.items (due_after all ForGood q.due.items) (length-due_after all ForGood q.due.items)))
