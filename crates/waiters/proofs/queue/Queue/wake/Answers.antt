use Rattle.std.proofs.Common.{◌≡◌, List, Option, not, filter, sym, subst, ap, rules}
use Rattle.arrayvec.proofs.ArrayVecLemmas.{filter-from_retain}
use Rattle.types.specs.declared.event.Answer.{Answer}
use Rattle.shared_memory.specs.declared.sleeper.Sleeper.{Sleeper}
use Rattle.shared_memory.specs.WaitQueue.{is_among, due_after}
use Rattle.shared_memory.specs.Sound.{IsSound}
use Rattle.shared_memory.proofs.Sleepers.{length-due_after}
use Rattle.shared_memory.proofs.Soundness.{IsSound-wakes}
use Rattle.waiters.proofs.Woken.{numbered_from, refill_same}
use Rattle.waiters.proofs.queue.Queue.wake.Goals as goal

pub tell_each-requires : goal.tell_each-requires
tell_each-requires c = let asleep = rw (← c.self.view_is) at c.requires in
    rw (c.as_mut_slice.ensures.value) (numbered_from _ c.self.invariant c.args.woken.now asleep)

pub invariant_of-self : goal.invariant_of-self
invariant_of-self c =
    let left : c.retain.new.self.items ≡ filter (λ (s : Sleeper). not (is_among s.thread c.args.woken.now)) c.self.inside.sleepers.items =
    filter-from_retain _ _ _ (λ x b f' y called. search rules) _ _ c.retain.ensures.filtered in
    let asleep = rw (← c.self.view_is) at c.requires in
    let q = c.self.inside in
    let woken = c.args.woken.now in
    let a = c.args.answer in
    let others : List Sleeper = filter (λ (s : Sleeper). not (is_among s.thread woken)) q.sleepers.items in
    rw (left, c.tell_each.ensures, c.as_mut_slice.ensures.value)
    (subst (λ (due : List (Option Answer)). IsSound (record { alive = q.alive.items; sleepers = others; due = due; args = q.args.items }))
    (sym (refill_same q.due.items (due_after woken a q.due.items) (length-due_after woken a q.due.items)))
    (IsSound-wakes _ woken a asleep c.self.invariant))

pub returns : goal.returns
returns c =
    let left : c.retain.new.self.items ≡ filter (λ (s : Sleeper). not (is_among s.thread c.args.woken.now)) c.self.inside.sleepers.items =
    filter-from_retain _ _ _ (λ x b f' y called. search rules) _ _ c.retain.ensures.filtered in
    let q = c.self.inside in
    let woken = c.args.woken.now in
    let a = c.args.answer in
    let others : List Sleeper = filter (λ (s : Sleeper). not (is_among s.thread woken)) q.sleepers.items in
    rw (← c.self.view_is, left, c.tell_each.ensures, c.as_mut_slice.ensures.value)
    (ap (λ (due : List (Option Answer)). record { alive = q.alive.items; sleepers = others; due = due; args = q.args.items })
    (refill_same q.due.items (due_after woken a q.due.items) (length-due_after woken a q.due.items)))
