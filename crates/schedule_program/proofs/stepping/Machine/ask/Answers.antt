use Rattle.std.proofs.Common.{◌+◌, refl, sym, ◌∙◌, ap, subst}
use Rattle.std.specs.Prelude.{cond, nat_lt}
use Rattle.types.specs.declared.limits.TheConstants.{MOST_THREADS}
use Rattle.shared_memory.specs.WaitQueue.{next_id, answer_due, after_question}
use Rattle.shared_memory.proofs.Lengths.{due_length_question}
use Rattle.schedule.specs.Scheduled.{or_started}
use Rattle.schedule_threads.specs.Shared.{without_dues}
use Rattle.schedule_machine.specs.Runs.{MayHear, all_hear, next_after, started_at, started_by}
use Rattle.schedule_program.specs.Runs.{AreThreads, with_spawned}
use Rattle.schedule_program.proofs.Slots.{are_same}
use Rattle.schedule_machine.proofs.Starting.{next_question}
use Rattle.schedule_program.proofs.Starting.{absent_hears, next_stays, started_none}
use Rattle.schedule_program.proofs.stepping.Machine.ask.Goals as goal

pub tell_all-requires-clause-threads : goal.tell_all-requires-clause-threads
tell_all-requires-clause-threads g c =
    let r = c.requires.threads in (r.0, r.1, r.2, subst (λ z. MayHear r.0 r.1 z) (sym c.ask.ensures.after) r.3)

pub start_next-requires-clause-threads : goal.start_next-requires-clause-threads
start_next-requires-clause-threads g c =
    let r = c.requires.threads in
    let next = c.args.self.now.next_id in
    let after = c.ask.new.self in (
      r.0,
      all_hear r.0 r.1 after,
      c.tell_all.ensures.threads r.0 r.1 r.2 (subst (λ z. MayHear r.0 r.1 z) (sym c.ask.ensures.after) r.3),
      absent_hears r.0 (r.1 next) (answer_due after next) r.4,
    )

pub returns-in-Spawn-clause-next : goal.returns-in-Spawn-clause-next
returns-in-Spawn-clause-next g c =
    let q = c.args.self.now.queue in
    let dues = sym (due_length_question q c.args.n c.args.question c.args.loaded) ∙ c.requires.due in
    let after = c.start_next.ensures.queue ∙ (c.tell_all.ensures.queue ∙ ap without_dues c.ask.ensures.after) in
    c.start_next.ensures.next
    ∙ (ap (λ k. cond (nat_lt k MOST_THREADS) (k + 1) k) c.requires.next
    ∙ sym (ap next_id after ∙ (next_question q dues c.args.n c.args.question c.args.loaded ∙ ap (λ z. next_after (next_id q) z) c.in-Spawn.is)))

pub returns-in-Spawn-clause-threads : goal.returns-in-Spawn-clause-threads
returns-in-Spawn-clause-threads g c s f are may absent =
    let m = g.T.TakesTurns in
    let q = c.args.self.now.queue in
    let next = c.args.self.now.next_id in
    let after = c.ask.new.self in
    let arg = c.in-Spawn.arg in
    let xs = c.start_next.new.self.threads.items in
    let heard = c.tell_all.ensures.threads s f are (subst (λ z. MayHear s f z) (sym c.ask.ensures.after) may) in
    let started = c.start_next.ensures.threads s (all_hear s f after) heard (absent_hears s (f next) (answer_due after next) absent) in
    let numbered = subst (λ k. AreThreads m.meaning s xs (with_spawned s k arg (all_hear s f after))) c.requires.next started in
    let told = subst (λ z. AreThreads m.meaning s xs (with_spawned s (next_id q) arg (all_hear s f z))) c.ask.ensures.after numbered in
    subst (λ z. AreThreads m.meaning s xs (λ k. or_started (started_at s (next_id q) z k)
    (all_hear s f (after_question q c.args.n c.args.question c.args.loaded) k)))
    (sym c.in-Spawn.is) told

pub returns-in_default : goal.returns-in_default
returns-in_default g c =
    let m = g.T.TakesTurns in
    let q = c.args.self.now.queue in
    let later = after_question q c.args.n c.args.question c.args.loaded in
    let dues = sym (due_length_question q c.args.n c.args.question c.args.loaded) ∙ c.requires.due in
    let queue = c.tell_all.ensures.queue ∙ ap without_dues c.ask.ensures.after in record {
      memory = refl;
      queue = queue;
      slots = c.tell_all.ensures.slots;
      next = c.requires.next ∙ sym (ap next_id queue
          ∙ (next_question q dues c.args.n c.args.question c.args.loaded
          ∙ next_stays (next_id q) c.args.question c.in_default.not-Spawn));
      threads = λ s f are may absent.
          are_same m.meaning s c.tell_all.new.threads.items (all_hear s f later) (started_by s f q c.args.n c.args.question c.args.loaded)
          (λ k. ap (λ o. or_started o (all_hear s f later k)) (started_none s (next_id q) c.args.question c.in_default.not-Spawn k))
          (subst (λ z. AreThreads m.meaning s c.tell_all.new.threads.items (all_hear s f z)) c.ask.ensures.after
          (c.tell_all.ensures.threads s f are (subst (λ z. MayHear s f z) (sym c.ask.ensures.after) may)));
    }
