use Rattle.std.proofs.Common.{◌≡◌, sym, ◌∙◌, ap, subst, arith}
use Rattle.shared_memory.specs.Memory.{reply_of, state_after}
use Rattle.shared_memory.specs.WaitQueue.{IsFree, answer_due}
use Rattle.shared_memory.specs.Sound.{IsSound}
use Rattle.shared_memory.specs.History.{queue_step}
use Rattle.shared_memory_sequential.specs.Opening.{IsSized}
use Rattle.waiters.specs.Kept.{queue_of, without_answers}
use Rattle.search_memory.specs.Memories.{memory_of}
use Rattle.search_runs.specs.Called.{system_of}
use Rattle.schedule_threads.specs.Shared.{queue_by}
use Rattle.search_parts.specs.Sharing.{begun_in}
use Rattle.search_parts.proofs.Events.{calls_of, no_call, sound, free, known, untold}
use Rattle.search_parts.proofs.stepping.make_event.Goals as goal

pub returns-in_default : goal.returns-in_default
returns-in_default c = λ b allowed z t e calls.
    no_call ((system_of b).wants (z.threads c.args.n)) e
    (sym c.in_default.is ∙ c.wanted.ensures.wanted c.args.valid.now b (z.threads c.args.n) t.of t.rested.stands) calls

pub overflow_cast-n : goal.overflow_cast-n
overflow_cast-n c =
    let b = c.requires.0 in
    let z = c.requires.1 in
    let t = c.requires.2 in
    let calls = calls_of ((system_of b).wants (z.threads c.args.n)) c.in-Some.event
    (sym c.in-Some.is ∙ c.wanted.ensures.wanted c.args.valid.now b (z.threads c.args.n) t.of t.rested.stands) in
    let low = known b z t.reached c.args.n c.in-Some.event calls in
    omega (arith, low)

pub entered-requires-clause-sound : goal.entered-requires-clause-sound
entered-requires-clause-sound c =
    let t = c.requires.2 in
    subst IsSound (sym t.shares.queue) (sound c.requires.0 c.requires.1 t.reached)

pub entered-requires-clause-free : goal.entered-requires-clause-free
entered-requires-clause-free c = λ question is.
    let b = c.requires.0 in
    let z = c.requires.1 in
    let t = c.requires.2 in
    let calls = calls_of ((system_of b).wants (z.threads c.args.n)) c.in-Some.event
    (sym c.in-Some.is ∙ c.wanted.ensures.wanted c.args.valid.now b (z.threads c.args.n) t.of t.rested.stands) in
    subst (λ q. IsFree q c.args.n) (sym t.shares.queue) (free b z t.reached c.args.n c.in-Some.event calls)

pub entered-requires-clause-untold : goal.entered-requires-clause-untold
entered-requires-clause-untold c =
    let b = c.requires.0 in
    let z = c.requires.1 in
    let t = c.requires.2 in
    let calls = calls_of ((system_of b).wants (z.threads c.args.n)) c.in-Some.event
    (sym c.in-Some.is ∙ c.wanted.ensures.wanted c.args.valid.now b (z.threads c.args.n) t.of t.rested.stands) in
    untold b z t.reached c.args.n c.in-Some.event calls

pub returns : goal.returns
returns c = λ b allowed z t.
    let n = c.args.n in
    let e = c.in-Some.event in
    let opening = c.args.opening.now in
    let calls = calls_of ((system_of b).wants (z.threads n)) e
    (sym c.in-Some.is ∙ c.wanted.ensures.wanted c.args.valid.now b (z.threads n) t.of t.rested.stands) in
    let reply : c.in_ok-memory.reply ≡ reply_of z.shared.memory e = c.in_ok-memory.ensures.reply ∙ ap (λ m. reply_of m e) t.shares.memory in
    let queue : queue_step (queue_of c.args.shared.now.queue) n e c.in_ok-memory.reply ≡ queue_by z.shared n e =
    ap (λ q. queue_step q n e c.in_ok-memory.reply) t.shares.queue ∙ ap (λ r. queue_step z.shared.queue n e r) reply in
    let made = c.in_ok-queue.ensures in (
      e,
      calls,
      record {
        memory = ap (memory_of opening) c.new.ensures.memory ∙ (c.in_ok-memory.ensures.after ∙ ap (λ m. state_after m e) t.shares.memory);
        queue = ap queue_of c.new.ensures.queue ∙ (made.queue ∙ ap without_answers queue);
        sized = subst (λ m. IsSized (memory_of opening m)) (sym c.new.ensures.memory) c.in_ok-memory.ensures.sized;
      },
      record {
        reply = made.reply ∙ reply;
        answers = λ m. made.answers m ∙ ap (λ q. answer_due q m) queue;
        begun = made.begun ∙ ap (λ q. begun_in q e) t.shares.queue;
      },
    )
