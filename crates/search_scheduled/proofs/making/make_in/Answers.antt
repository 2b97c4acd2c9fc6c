use Rattle.std.proofs.Common.{◌≡◌, List, Option, sym, ◌∙◌, ap, subst}
use Rattle.types.specs.declared.event.Event.{Event}
use Rattle.types.specs.declared.event.Event.TheVariants as events
use Rattle.types.specs.declared.event.Question.{Question}
use Rattle.types.specs.declared.outcome.Outcome.{Outcome}
use Rattle.shared_memory.specs.Memory.{Memory, reply_of}
use Rattle.shared_memory.specs.WaitQueue.{WaitQueue, next_id}
use Rattle.shared_memory.specs.History.{queue_step}
use Rattle.replay_walk.specs.Standing.{IsAnswered, IsStanding, made_by}
use Rattle.replay_walk.proofs.Ending.{goes_on}
use Rattle.replay_walk.proofs.Made.{is_free, right, has_taken, spawn_ready, made_plain, nobody, queue_stays}
use Rattle.replay_walk.proofs.Asked.{made_question}
use Rattle.search_scheduled.proofs.Answering.{is_answered}
use Rattle.search_scheduled.proofs.making.make_in.Goals as goal

pub turn_at-requires-clause-given : goal.turn_at-requires-clause-given
turn_at-requires-clause-given g c = λ x at.
    let r = c.requires.settled in
    let stage = c.args.stage.now in
    let a = right g.T.TakesTurns.meaning r.0 c.args.threads.now stage.queue stage.started stage.ends c.args.n r.1 r.2 c.args.event r.4 r.5 x at in
    (a.0, a.1, (a.2, (a.3).0, (a.3).1))

pub ask-requires-clause-free : goal.ask-requires-clause-free
ask-requires-clause-free g c =
    let r = c.requires.settled in
    let stage = c.args.stage.now in
    is_free g.T.TakesTurns.meaning r.0 c.args.threads.now stage.queue stage.started stage.ends c.args.n r.1 r.2

pub ask-requires-clause-spawn : goal.ask-requires-clause-spawn
ask-requires-clause-spawn g c = λ arg is lt.
    let r = c.requires.settled in
    let stage = c.args.stage.now in
    let answered = subst IsAnswered (sym c.step-reply.ensures.reply) (is_answered c.args.memory.now c.args.event) in
    let taken = has_taken g.T.TakesTurns.meaning r.0 c.args.threads.now stage.queue stage.started stage.ends c.args.n r.1 r.2
    c.args.event c.step-reply.result c.turn_at.result c.turn_at.new.threads answered r.4 r.5 c.turn_at.ensures.turned in
    let ready = spawn_ready g.T.TakesTurns.meaning r.0 c.args.threads.now stage.queue stage.started stage.ends c.args.n r.1 r.2
    c.step-reply.result c.turn_at.new.threads taken (c.requires.room arg (c.in-Ask.is ∙ ap (λ q. events.Ask q) is)) lt in
    (ready.0, λ x at. ((r.0).worker, ready.1 x at))

pub returns-in_default-clause-made : goal.returns-in_default-clause-made
returns-in_default-clause-made g c = λ s t on memory none wants.
    let stage = c.args.stage.now in
    let reply : c.step-reply.result ≡ reply_of s.memory c.args.event =
    c.step-reply.ensures.reply ∙ ap (λ (m : Memory). reply_of m c.args.event) (sym memory) in
    let kind = (goes_on s.program t c.args.event on.here none wants).plain in
    let answered = subst IsAnswered (sym c.step-reply.ensures.reply) (is_answered c.args.memory.now c.args.event) in
    let taken = has_taken g.T.TakesTurns.meaning s c.args.threads.now stage.queue stage.started stage.ends c.args.n t on
    c.args.event c.step-reply.result c.turn_at.result c.turn_at.new.threads answered none wants c.turn_at.ensures.turned in
    let other : (q : Question) → c.args.event ≡ events.Ask q → ⊥ = c.in_default.not-Ask in
    let stays : queue_step stage.queue c.args.n c.args.event c.step-reply.result ≡ stage.queue =
    queue_stays stage.queue c.args.n c.args.event c.step-reply.result kind other in
    subst (λ (q : WaitQueue). IsStanding g.T.TakesTurns.meaning (made_by s c.args.n c.args.event c.step-reply.result t) c.turn_at.new.threads q
    stage.started stage.ends) stays
    (made_plain g.T.TakesTurns.meaning s c.args.threads.now stage.queue stage.started stage.ends c.args.n t on
    c.args.event c.step-reply.result kind reply none wants c.turn_at.new.threads taken (nobody s c.args.n c.args.event other)
    ((on.standing).started ∙ ap next_id (sym stays)))

pub returns-in-Ask-clause-made : goal.returns-in-Ask-clause-made
returns-in-Ask-clause-made g c = λ s t on memory none wants.
    let stage = c.args.stage.now in
    let reply : c.step-reply.result ≡ reply_of s.memory c.args.event =
    c.step-reply.ensures.reply ∙ ap (λ (m : Memory). reply_of m c.args.event) (sym memory) in
    let kind = (goes_on s.program t c.args.event on.here none wants).plain in
    let answered = subst IsAnswered (sym c.step-reply.ensures.reply) (is_answered c.args.memory.now c.args.event) in
    let taken = has_taken g.T.TakesTurns.meaning s c.args.threads.now stage.queue stage.started stage.ends c.args.n t on
    c.args.event c.step-reply.result c.turn_at.result c.turn_at.new.threads answered none wants c.turn_at.ensures.turned in
    let queue : queue_step stage.queue c.args.n c.args.event c.step-reply.result ≡ c.ask.new.self.queue =
    ap (λ (x : Event). queue_step stage.queue c.args.n x c.step-reply.result) c.in-Ask.is ∙ sym c.ask.ensures.queue in
    subst (λ (q : WaitQueue). IsStanding g.T.TakesTurns.meaning (made_by s c.args.n c.args.event c.step-reply.result t) c.ask.new.threads q
    c.ask.new.self.started c.ask.new.self.ends) queue
    (subst (λ (l : List (Option Outcome)). IsStanding g.T.TakesTurns.meaning (made_by s c.args.n c.args.event c.step-reply.result t) c.ask.new.threads
    (queue_step stage.queue c.args.n c.args.event c.step-reply.result) c.ask.new.self.started l) (sym c.ask.ensures.ends)
    (made_question g.T.TakesTurns.meaning s c.args.threads.now stage.queue stage.started stage.ends c.args.n t on
    c.args.event c.step-reply.result reply kind none wants c.turn_at.new.threads taken c.in-Ask.question
    c.in-Ask.is c.requires.room c.ask.new.threads c.ask.new.self.started
    c.ask.ensures.started c.ask.ensures.full c.ask.ensures.other))
