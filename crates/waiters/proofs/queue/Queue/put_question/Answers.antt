use Rattle.std.proofs.Common.{◌≡◌, ◌<◌, ◌==◌, false, sym, subst}
use Rattle.shared_memory.specs.declared.sleeper.Sleeper.{Sleeper}
use Rattle.shared_memory.specs.WaitQueue.{WaitQueue, is_asleep, next_id}
use Rattle.shared_memory.specs.Sound.{IsSound}
use Rattle.shared_memory.proofs.Sleepers.{list_any-filter}
use Rattle.waiters.proofs.Woken.{known_spawn}
use Rattle.waiters.proofs.queue.Queue.put_question.Goals as goal

pub tell-requires-clause-known : goal.tell-requires-clause-known
tell-requires-clause-known c = (subst IsSound c.self.view_is c.self.invariant).named c.args.thread c.requires.alive

pub tell-requires-clause-awake : goal.tell-requires-clause-awake
tell-requires-clause-awake c = c.requires.awake

pub tell-requires-then-ends_at_once-clause-known : goal.tell-requires-then-ends_at_once-clause-known
tell-requires-then-ends_at_once-clause-known c = (subst IsSound c.self.view_is c.self.invariant).named c.args.thread c.requires.alive

pub tell-requires-then-ends_at_once-clause-awake : goal.tell-requires-then-ends_at_once-clause-awake
tell-requires-then-ends_at_once-clause-awake c = c.requires.awake

pub sleep-requires : goal.sleep-requires
sleep-requires c = c.requires

pub tell-requires-in-Notify-clause-known : goal.tell-requires-in-Notify-clause-known
tell-requires-in-Notify-clause-known c =
    subst (λ (q : WaitQueue). c.args.thread < next_id q) (sym c.notify-woken.ensures.after)
    ((subst IsSound c.self.view_is c.self.invariant).named c.args.thread c.requires.alive)

pub tell-requires-in-Notify-clause-awake : goal.tell-requires-in-Notify-clause-awake
tell-requires-in-Notify-clause-awake c =
    subst (λ (q : WaitQueue). is_asleep q c.args.thread ≡ false) (sym c.notify-woken.ensures.after)
    (list_any-filter _ (λ (s : Sleeper). s.thread == c.args.thread) c.args.self.now.sleepers c.requires.awake)

pub tell-requires-in-Spawn-clause-known : goal.tell-requires-in-Spawn-clause-known
tell-requires-in-Spawn-clause-known c =
    subst (λ (q : WaitQueue). c.args.thread < next_id q) (sym c.spawn-id.ensures.after)
    (known_spawn c.args.self.now c.args.thread c.in-Spawn.arg ((subst IsSound c.self.view_is c.self.invariant).named c.args.thread c.requires.alive))

pub leave-requires : goal.leave-requires
leave-requires c = c.requires.awake

pub tell-requires-in-Leave-clause-known : goal.tell-requires-in-Leave-clause-known
tell-requires-in-Leave-clause-known c =
    subst (λ (q : WaitQueue). c.args.thread < next_id q) (sym c.leave.ensures)
    ((subst IsSound c.self.view_is c.self.invariant).named c.args.thread c.requires.alive)

pub tell-requires-in-Leave-clause-awake : goal.tell-requires-in-Leave-clause-awake
tell-requires-in-Leave-clause-awake c = subst (λ (q : WaitQueue). is_asleep q c.args.thread ≡ false) (sym c.leave.ensures) c.requires.awake
