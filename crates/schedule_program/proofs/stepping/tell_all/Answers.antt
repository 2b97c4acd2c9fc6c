use Rattle.std.proofs.Common.{◌≡◌, ◌+◌, refl, ◌∙◌, subst, arith}
use Rattle.types.specs.declared.limits.TheConstants.{MOST_THREADS}
use Rattle.schedule.specs.System.{put}
use Rattle.shared_memory.specs.WaitQueue.{answer_due}
use Rattle.schedule_machine.specs.Runs.{all_hear}
use Rattle.schedule_program.specs.Runs.{AreThreads}
use Rattle.schedule_program.proofs.Slots.{are_same}
use Rattle.schedule_program.proofs.Telling.{told_until, told_next, told_every, IsToldUntil, may_still, told_put, told_all}
use Rattle.schedule_program.proofs.stepping.tell_all.Goals as goal

pub tell-requires : goal.tell-requires
tell-requires g c =
    let r = c.requires.threads in
    let i = c.loop-n.invariant in
    (r.0, told_until r.0 r.1 c.args.queue.now c.loop-n.n, i.threads r.0 r.1 r.2 r.3, may_still r.0 r.1 c.args.queue.now c.loop-n.queue c.loop-n.n i.queue r.3)

pub loop-n-preserved : goal.loop-n-preserved
loop-n-preserved g c =
    let m = g.T.TakesTurns in
    let i = c.loop-n.invariant in
    let k = c.loop-n.n in
    let q = c.args.queue.now in
    let now = c.loop-n.queue in record {
      long = c.tell.ensures.slots ∙ i.long;
      queue = told_next k q now c.tell.new.queue (answer_due now k) i.queue refl c.tell.ensures.queue;
      threads = λ s f are may.
          are_same m.meaning s c.tell.new.threads.items
          (put (told_until s f q k) k (all_hear s (told_until s f q k) now k)) (told_until s f q (k + 1))
          (told_put s f q now k i.queue)
          (c.tell.ensures.threads s (told_until s f q k) (i.threads s f are may) (may_still s f q now k i.queue may));
    }

pub returns-clause-queue : goal.returns-clause-queue
returns-clause-queue g c =
    let all : c.loop-n.n ≡ MOST_THREADS = omega arith in
    told_every c.args.queue.now c.loop-n.queue c.requires.due (subst (λ k. IsToldUntil k c.args.queue.now c.loop-n.queue) all c.loop-n.invariant.queue)

pub returns-clause-threads : goal.returns-clause-threads
returns-clause-threads g c s f are may =
    let m = g.T.TakesTurns in
    let all : c.loop-n.n ≡ MOST_THREADS = omega arith in
    are_same m.meaning s c.loop-n.threads.items (told_until s f c.args.queue.now MOST_THREADS)
    (all_hear s f c.args.queue.now) (told_all s f c.args.queue.now c.requires.due)
    (subst (λ k. AreThreads m.meaning s c.loop-n.threads.items (told_until s f c.args.queue.now k)) all (c.loop-n.invariant.threads s f are may))
