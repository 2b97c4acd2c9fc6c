use Rattle.std.proofs.Common.{◌≡◌, List, Option, sym, ◌∙◌, ap, subst}
use Rattle.std.proofs.lemmas.Option.{slice_get_within}
use Rattle.types.specs.declared.event.Event.{Event}
use Rattle.types.specs.declared.event.Event.TheVariants as events
use Rattle.types.specs.declared.outcome.Outcome.{Outcome}
use Rattle.replay_walk.specs.Standing.{IsStanding}
use Rattle.types.specs.declared.event.Question.{Question}
use Rattle.shared_memory.specs.Memory.{Memory, reply_of}
use Rattle.shared_memory.specs.WaitQueue.{WaitQueue, next_id}
use Rattle.shared_memory.specs.History.{queue_step}
use Rattle.replay_walk.specs.Standing.{made_by}
use Rattle.replay_walk.proofs.Apart.{isnt_true, isnt_false}
use Rattle.replay_walk.proofs.Made.{is_free, right, has_taken, spawn_ready, made_plain, nobody, queue_stays}
use Rattle.replay_walk.proofs.Asked.{made_question}
use Rattle.replay_walk.proofs.stage.Stage.make.Goals as goal

pub turn_at-requires-clause-given : goal.turn_at-requires-clause-given
turn_at-requires-clause-given g c = λ x at.
    let r = c.requires.settled in
    let a = right g.T.TakesTurns.meaning r.0 c.args.threads.now c.args.self.now.queue c.args.self.now.started
    c.args.self.now.ends c.args.n r.1 r.2 c.args.event r.4 r.5 x at in
    (a.0, a.1, (a.2, (a.3).0, (a.3).1))

pub ask-requires-clause-free : goal.ask-requires-clause-free
ask-requires-clause-free g c =
    let r = c.requires.settled in
    is_free g.T.TakesTurns.meaning r.0 c.args.threads.now c.args.self.now.queue c.args.self.now.started c.args.self.now.ends c.args.n r.1 r.2

pub ask-requires-clause-spawn : goal.ask-requires-clause-spawn
ask-requires-clause-spawn g c = λ arg is lt.
    let r = c.requires.settled in
    let taken = has_taken g.T.TakesTurns.meaning r.0 c.args.threads.now c.args.self.now.queue c.args.self.now.started c.args.self.now.ends c.args.n r.1 r.2
    c.args.event c.args.reply c.turn_at.result c.turn_at.new.threads c.requires.reply r.4 r.5 c.turn_at.ensures.turned in
    let ready = spawn_ready g.T.TakesTurns.meaning r.0 c.args.threads.now c.args.self.now.queue c.args.self.now.started c.args.self.now.ends c.args.n r.1 r.2
    c.args.reply c.turn_at.new.threads taken (c.requires.room arg (c.in-Ask.is ∙ ap (λ q. events.Ask q) is)) lt in
    (ready.0, λ x at. ((r.0).worker, ready.1 x at))

pub returns-in_default : goal.returns-in_default
returns-in_default g c = record {
  count = c.turn_at.ensures.count;
  memory = c.step-answered.ensures.state;
  made = λ yes s t on memory none wants.
      let same : c.step-answered.result ≡ c.args.reply = c.is_same_reply.ensures.same c.if-not-is_same_reply.false in
      let reply : c.args.reply ≡ reply_of s.memory c.args.event = sym same
      ∙ (c.step-answered.ensures.reply ∙ ap (λ (m : Memory). reply_of m c.args.event) (sym memory)) in
      let taken = has_taken g.T.TakesTurns.meaning s c.args.threads.now c.args.self.now.queue c.args.self.now.started c.args.self.now.ends c.args.n t on
      c.args.event c.args.reply c.turn_at.result c.turn_at.new.threads c.requires.reply none wants c.turn_at.ensures.turned in
      let other : (q : Question) → c.args.event ≡ events.Ask q → ⊥ = c.in_default.not-Ask in
      let stays : queue_step c.args.self.now.queue c.args.n c.args.event c.args.reply ≡ c.args.self.now.queue =
      queue_stays c.args.self.now.queue c.args.n c.args.event c.args.reply c.requires.kind
      other in (
        reply,
        subst (λ (q : WaitQueue). IsStanding g.T.TakesTurns.meaning (made_by s c.args.n c.args.event c.args.reply t) c.turn_at.new.threads q
            c.args.self.now.started c.args.self.now.ends) stays
            (made_plain g.T.TakesTurns.meaning s c.args.threads.now c.args.self.now.queue c.args.self.now.started c.args.self.now.ends c.args.n t on
            c.args.event c.args.reply c.requires.kind reply none wants c.turn_at.new.threads taken (nobody s c.args.n c.args.event other)
            ((on.standing).started ∙ ap next_id (sym stays))),
      );
  refused = λ no. isnt_false no;
  kept = λ no. isnt_false no;
}

pub returns-in-Ask-clause-made : goal.returns-in-Ask-clause-made
returns-in-Ask-clause-made g c = λ yes s t on memory none wants.
    let same : c.step-answered.result ≡ c.args.reply = c.is_same_reply.ensures.same c.if-not-is_same_reply.false in
    let reply : c.args.reply ≡ reply_of s.memory c.args.event = sym same
    ∙ (c.step-answered.ensures.reply ∙ ap (λ (m : Memory). reply_of m c.args.event) (sym memory)) in
    let taken = has_taken g.T.TakesTurns.meaning s c.args.threads.now c.args.self.now.queue c.args.self.now.started c.args.self.now.ends c.args.n t on
    c.args.event c.args.reply c.turn_at.result c.turn_at.new.threads c.requires.reply none wants c.turn_at.ensures.turned in
    let queue : queue_step c.args.self.now.queue c.args.n c.args.event c.args.reply ≡ c.ask.new.self.queue =
    ap (λ (x : Event). queue_step c.args.self.now.queue c.args.n x c.args.reply) c.in-Ask.is ∙ sym c.ask.ensures.queue in (
      reply,
      subst (λ (q : WaitQueue). IsStanding g.T.TakesTurns.meaning (made_by s c.args.n c.args.event c.args.reply t) c.ask.new.threads q
          c.ask.new.self.started c.ask.new.self.ends) queue
          (subst (λ (l : List (Option Outcome)). IsStanding g.T.TakesTurns.meaning (made_by s c.args.n c.args.event c.args.reply t) c.ask.new.threads
          (queue_step c.args.self.now.queue c.args.n c.args.event c.args.reply) c.ask.new.self.started l) (sym c.ask.ensures.ends)
          (made_question g.T.TakesTurns.meaning s c.args.threads.now c.args.self.now.queue c.args.self.now.started c.args.self.now.ends c.args.n t on
          c.args.event c.args.reply reply c.requires.kind none wants c.turn_at.new.threads taken c.in-Ask.question
          c.in-Ask.is c.requires.room c.ask.new.threads c.ask.new.self.started
          c.ask.ensures.started c.ask.ensures.full c.ask.ensures.other)),
    )

pub returns-then-not-is_same_reply-clause-made : goal.returns-then-not-is_same_reply-clause-made
returns-then-not-is_same_reply-clause-made g c = λ yes. isnt_true yes

pub returns-in-Ask-clause-refused : goal.returns-in-Ask-clause-refused
returns-in-Ask-clause-refused g c = λ no. isnt_false no

pub returns-in-Ask-clause-kept : goal.returns-in-Ask-clause-kept
returns-in-Ask-clause-kept g c = λ no. isnt_false no

pub turn_at-requires-clause-within : goal.turn_at-requires-clause-within
turn_at-requires-clause-within g c = slice_get_within _ _ _ c.requires.settled.2.at
