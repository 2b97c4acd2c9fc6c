use Rattle.std.proofs.Common.{◌≡◌, arith, List, length, sym, ◌∙◌, ap, subst, inl, inr, refl}
use Rattle.std.proofs.lemmas.List.{take_at}
use Rattle.types.specs.declared.event.Event.{Event}
use Rattle.types.specs.declared.event.Reply.{Reply}
use Rattle.types.specs.declared.event.Answer.{Answer}
use Rattle.shared_memory.specs.Memory.{Memory, reply_of, state_after}
use Rattle.schedule.specs.System.{Act, Want.Calls}
use Rattle.schedule_threads.specs.Shared.{act_of}
use Rattle.interp_trait.specs.declared.turn.Turn.{Turn}
use Rattle.interp_trait.specs.declared.turn.Turn.TheVariants as turns
use Rattle.replay_walk.specs.Standing.{Says}
use Rattle.replay_walk.specs.Walked.{IsRefused}
use Rattle.replay_walk.proofs.Apart.{isnt_true, same_wanted}
use Rattle.replay_walk.proofs.Acts.{event_act, answered}
use Rattle.replay_walk.proofs.Settled.{within, ready, settled}
use Rattle.replay_walk.proofs.Watched.{wants_at}
use Rattle.replay_walk.proofs.Taken.{room_for, can_event, took_as}
use Rattle.replay_walk.proofs.Refused.{refused_gone, refused_full, refused_other, refused_reply}
use Rattle.replay_walk.proofs.Replaced.{count_back}
use Rattle.replay_walk.proofs.Seen.{told_of, shown_of, seen_by}
use Rattle.replay_walk.proofs.walk.Walk.take_event.Goals as goal
use Rattle.replay_walk.proofs.walk.Walk.take_event.Goals.{then-at-limit-via-then-at-limit, then-at-limit-via-else-at-limit+then-not-is_going}

pub returns-then-at-limit-clause-refused : goal.returns-then-at-limit-clause-refused
returns-then-at-limit-clause-refused g c = λ no s st same.
    let act = event_act c.args.entry.now.event c.args.entry.now.reply c.requires.kind in
    subst (λ (a : Act Event Reply Answer). IsRefused s c.args.limit c.args.at c.args.entry.now.thread a) (sym act)
    (elim c.then-at-limit.branch [
      | then-at-limit-via-then-at-limit w ↦ refused_full g.T.TakesTurns.meaning s c.args.self.now.threads.items
          c.args.self.now.stage.queue c.args.self.now.stage.started c.args.self.now.stage.ends st
          c.args.entry.now.thread c.args.limit c.args.at c.args.entry.now.event c.args.entry.now.reply c.requires.kind w.if-at-limit.true
      | then-at-limit-via-else-at-limit+then-not-is_going w ↦
          refused_gone g.T.TakesTurns.meaning s c.args.self.now.threads.items c.args.self.now.stage.queue
          c.args.self.now.stage.started
          c.args.self.now.stage.ends st c.args.entry.now.thread c.args.limit c.args.at c.args.entry.now.event c.args.entry.now.reply
          (λ free. w.is_going.ensures.gone w.if-not-is_going.true s c.args.self.now.threads.items st free)
    ])

pub settle_at-turn-requires-clause-within : goal.settle_at-turn-requires-clause-within
settle_at-turn-requires-clause-within g c =
    let s = c.requires.standing.0 in let st = c.requires.standing.1 in
    let going = c.is_going.ensures.going c.if-not-is_going.false s c.args.self.now.threads.items st in
    within g.T.TakesTurns.meaning s c.args.self.now.threads.items c.args.self.now.stage.queue
    c.args.self.now.stage.started c.args.self.now.stage.ends st c.args.entry.now.thread going
    c.as_mut_slice-threads.result.now c.as_mut_slice-threads.ensures.value

pub settle_at-turn-requires-clause-here : goal.settle_at-turn-requires-clause-here
settle_at-turn-requires-clause-here g c =
    let s = c.requires.standing.0 in let st = c.requires.standing.1 in
    let going = c.is_going.ensures.going c.if-not-is_going.false s c.args.self.now.threads.items st in
    ready g.T.TakesTurns.meaning s c.args.self.now.threads.items c.args.self.now.stage.queue
    c.args.self.now.stage.started c.args.self.now.stage.ends st c.args.entry.now.thread going
    c.as_mut_slice-threads.result.now c.as_mut_slice-threads.ensures.value

pub returns-in_default-clause-refused : goal.returns-in_default-clause-refused
returns-in_default-clause-refused g c = λ no s st same.
    let act = event_act c.args.entry.now.event c.args.entry.now.reply c.requires.kind in
    let going = c.is_going.ensures.going c.if-not-is_going.false s c.args.self.now.threads.items st in
    let d = settled g.T.TakesTurns.meaning s c.args.self.now.threads.items c.args.self.now.stage.queue
    c.args.self.now.stage.started c.args.self.now.stage.ends st c.args.entry.now.thread going
    c.as_mut_slice-threads.result.now c.as_mut_slice-threads.ensures.value c.settle_at-turn.result c.settle_at-turn.new.threads
    c.settle_at-turn.ensures.settled in
    subst (λ (a : Act Event Reply Answer). IsRefused s c.args.limit c.args.at c.args.entry.now.thread a) (sym act)
    (refused_other g.T.TakesTurns.meaning s c.args.self.now.threads.items c.args.self.now.stage.queue
    c.args.self.now.stage.started c.args.self.now.stage.ends st c.args.entry.now.thread c.args.limit
    c.args.at going c.settle_at-turn.result c.settle_at-turn.new.threads d c.args.entry.now.event c.args.entry.now.reply
    c.requires.kind (λ is. c.in_default.not-Wants c.args.entry.now.event is))

pub returns-then-not-is_same_event-clause-refused : goal.returns-then-not-is_same_event-clause-refused
returns-then-not-is_same_event-clause-refused g c = λ no s st same.
    let act = event_act c.args.entry.now.event c.args.entry.now.reply c.requires.kind in
    let going = c.is_going.ensures.going c.if-not-is_going.false s c.args.self.now.threads.items st in
    let d = settled g.T.TakesTurns.meaning s c.args.self.now.threads.items c.args.self.now.stage.queue
    c.args.self.now.stage.started c.args.self.now.stage.ends st c.args.entry.now.thread going
    c.as_mut_slice-threads.result.now c.as_mut_slice-threads.ensures.value c.settle_at-turn.result c.settle_at-turn.new.threads
    c.settle_at-turn.ensures.settled in
    subst (λ (a : Act Event Reply Answer). IsRefused s c.args.limit c.args.at c.args.entry.now.thread a) (sym act)
    (refused_other g.T.TakesTurns.meaning s c.args.self.now.threads.items c.args.self.now.stage.queue
    c.args.self.now.stage.started c.args.self.now.stage.ends st c.args.entry.now.thread c.args.limit
    c.args.at going c.settle_at-turn.result c.settle_at-turn.new.threads d c.args.entry.now.event c.args.entry.now.reply c.requires.kind
    (λ is. c.is_same_event.ensures.other c.if-not-is_same_event.true (same_wanted c.in-Wants.is is)))

pub show_event-requires-clause-within : goal.show_event-requires-clause-within
show_event-requires-clause-within g c =
    let s = c.requires.standing.0 in let st = c.requires.standing.1 in
    let going = c.is_going.ensures.going c.if-not-is_going.false s c.args.self.now.threads.items st in
    let before = within g.T.TakesTurns.meaning s c.args.self.now.threads.items c.args.self.now.stage.queue
    c.args.self.now.stage.started c.args.self.now.stage.ends st c.args.entry.now.thread going
    c.as_mut_slice-threads.result.now c.as_mut_slice-threads.ensures.value in
    omega (arith, before, c.settle_at-turn.ensures.count)

pub show_event-requires-clause-wants : goal.show_event-requires-clause-wants
show_event-requires-clause-wants g c = λ x at.
    let s = c.requires.standing.0 in let st = c.requires.standing.1 in
    let going = c.is_going.ensures.going c.if-not-is_going.false s c.args.self.now.threads.items st in
    let d = settled g.T.TakesTurns.meaning s c.args.self.now.threads.items c.args.self.now.stage.queue
    c.args.self.now.stage.started c.args.self.now.stage.ends st c.args.entry.now.thread going
    c.as_mut_slice-threads.result.now c.as_mut_slice-threads.ensures.value c.settle_at-turn.result c.settle_at-turn.new.threads
    c.settle_at-turn.ensures.settled in
    let same : c.in-Wants.wanted ≡ c.args.entry.now.event = c.is_same_event.ensures.same c.if-not-is_same_event.false in
    let says = subst (λ (t : Turn). Says s.program d.thread t) (c.in-Wants.is ∙ ap (λ (e : Event). turns.Wants e) same) d.says in
    wants_at g.T.TakesTurns.meaning s c.settle_at-turn.new.threads c.args.self.now.stage.queue c.args.self.now.stage.started
    c.args.self.now.stage.ends c.args.entry.now.thread d.thread d.on c.args.entry.now.event says.0 says.1 x at

pub make-requires-clause-event : goal.make-requires-clause-event
make-requires-clause-event g c = c.requires.entry.event

pub make-requires-clause-reply : goal.make-requires-clause-reply
make-requires-clause-reply g c = answered c.args.entry.now.reply c.requires.entry.reply_fits

pub make-requires-clause-room : goal.make-requires-clause-room
make-requires-clause-room g c = λ arg is.
    let s = c.requires.standing.0 in let st = c.requires.standing.1 in
    let going = c.is_going.ensures.going c.if-not-is_going.false s c.args.self.now.threads.items st in
    let d = settled g.T.TakesTurns.meaning s c.args.self.now.threads.items c.args.self.now.stage.queue
    c.args.self.now.stage.started c.args.self.now.stage.ends st c.args.entry.now.thread going
    c.as_mut_slice-threads.result.now c.as_mut_slice-threads.ensures.value c.settle_at-turn.result c.settle_at-turn.new.threads
    c.settle_at-turn.ensures.settled in
    let same : c.in-Wants.wanted ≡ c.args.entry.now.event = c.is_same_event.ensures.same c.if-not-is_same_event.false in
    let says = subst (λ (t : Turn). Says s.program d.thread t) (c.in-Wants.is ∙ ap (λ (e : Event). turns.Wants e) same) d.says in
    c.settle_at-turn.ensures.count ∙ (ap (λ (l : List g.row.T.Denot). length l) c.as_mut_slice-threads.ensures.value
    ∙ room_for s.program (length c.args.self.now.threads.items) d.thread arg c.requires.standing.3 (says.1 ∙ ap (λ (e : Event). Calls e) is))

pub make-requires-clause-settled : goal.make-requires-clause-settled
make-requires-clause-settled g c =
    let s = c.requires.standing.0 in let st = c.requires.standing.1 in
    let going = c.is_going.ensures.going c.if-not-is_going.false s c.args.self.now.threads.items st in
    let d = settled g.T.TakesTurns.meaning s c.args.self.now.threads.items c.args.self.now.stage.queue
    c.args.self.now.stage.started c.args.self.now.stage.ends st c.args.entry.now.thread going
    c.as_mut_slice-threads.result.now c.as_mut_slice-threads.ensures.value c.settle_at-turn.result c.settle_at-turn.new.threads
    c.settle_at-turn.ensures.settled in
    let same : c.in-Wants.wanted ≡ c.args.entry.now.event = c.is_same_event.ensures.same c.if-not-is_same_event.false in
    let says = subst (λ (t : Turn). Says s.program d.thread t) (c.in-Wants.is ∙ ap (λ (e : Event). turns.Wants e) same) d.says in
    (s, d.thread, d.on, c.requires.standing.2, says.0, says.1)

pub returns-clause-taken : goal.returns-clause-taken
returns-clause-taken g c = λ yes s st same.
    let act = event_act c.args.entry.now.event c.args.entry.now.reply c.requires.kind in
    let going = c.is_going.ensures.going c.if-not-is_going.false s c.args.self.now.threads.items st in
    let d = settled g.T.TakesTurns.meaning s c.args.self.now.threads.items c.args.self.now.stage.queue
    c.args.self.now.stage.started c.args.self.now.stage.ends st c.args.entry.now.thread going
    c.as_mut_slice-threads.result.now c.as_mut_slice-threads.ensures.value c.settle_at-turn.result c.settle_at-turn.new.threads
    c.settle_at-turn.ensures.settled in
    let alike : c.in-Wants.wanted ≡ c.args.entry.now.event = c.is_same_event.ensures.same c.if-not-is_same_event.false in
    let says = subst (λ (t : Turn). Says s.program d.thread t) (c.in-Wants.is ∙ ap (λ (e : Event). turns.Wants e) alike) d.says in
    let made = c.make.ensures.made yes s d.thread d.on same says.0 says.1 in
    let can = can_event g.T.TakesTurns.meaning s c.settle_at-turn.new.threads c.args.self.now.stage.queue
    c.args.self.now.stage.started c.args.self.now.stage.ends c.args.entry.now.thread d.thread d.on
    d.settles c.args.limit c.args.at c.args.entry.now.event c.args.entry.now.reply c.requires.kind made.0 says.1 c.if-at-limit.false in
    took_as g.T.TakesTurns.meaning s c.args.limit c.args.at c.args.entry.now.thread c.args.entry.now.event
    c.args.entry.now.reply d.thread can (act_of c.args.entry.now) act _ c.make.new.threads
    (take_at c.make.new.threads _ c.args.self.now.threads.len (c.make.ensures.count ∙ (c.settle_at-turn.ensures.count ∙ c.as_mut_slice-threads.ensures.len)))
    c.make.new.memory c.make.new.self.queue c.make.new.self.started c.make.new.self.ends
    (ap (λ (m : Memory). state_after m c.args.entry.now.event) same ∙ sym c.make.ensures.memory) made.1

pub returns-clause-refused : goal.returns-clause-refused
returns-clause-refused g c = λ no s st same.
    let act = event_act c.args.entry.now.event c.args.entry.now.reply c.requires.kind in
    subst (λ (a : Act Event Reply Answer). IsRefused s c.args.limit c.args.at c.args.entry.now.thread a) (sym act)
    (refused_reply g.T.TakesTurns.meaning s c.args.self.now.threads.items c.args.self.now.stage.queue
    c.args.self.now.stage.started c.args.self.now.stage.ends st c.args.entry.now.thread c.args.limit
    c.args.at c.args.entry.now.event c.args.entry.now.reply
    (λ is. c.make.ensures.refused no (is ∙ ap (λ (m : Memory). reply_of m c.args.entry.now.event) same)))

pub returns-then-at-limit-clause-taken : goal.returns-then-at-limit-clause-taken
returns-then-at-limit-clause-taken g c = λ yes. isnt_true yes

pub returns-in_default-clause-taken : goal.returns-in_default-clause-taken
returns-in_default-clause-taken g c = λ yes. isnt_true yes

pub returns-then-not-is_same_event-clause-taken : goal.returns-then-not-is_same_event-clause-taken
returns-then-not-is_same_event-clause-taken g c = λ yes. isnt_true yes

pub returns-in_default-clause-count : goal.returns-in_default-clause-count
returns-in_default-clause-count g c = count_back c.settle_at-turn.new.threads c.as_mut_slice-threads.result.now _ _ _
    c.settle_at-turn.ensures.count c.as_mut_slice-threads.ensures.value c.as_mut_slice-threads.ensures.len

pub returns-then-not-is_same_event-clause-count : goal.returns-then-not-is_same_event-clause-count
returns-then-not-is_same_event-clause-count g c = count_back c.settle_at-turn.new.threads c.as_mut_slice-threads.result.now _ _ _
    c.settle_at-turn.ensures.count c.as_mut_slice-threads.ensures.value c.as_mut_slice-threads.ensures.len

pub returns-clause-count : goal.returns-clause-count
returns-clause-count g c = count_back c.make.new.threads c.as_mut_slice-threads.result.now _ _ _
    (c.make.ensures.count ∙ c.settle_at-turn.ensures.count) c.as_mut_slice-threads.ensures.value c.as_mut_slice-threads.ensures.len

pub returns-then-at-limit-clause-seen : goal.returns-then-at-limit-clause-seen
returns-then-at-limit-clause-seen g c = inl (
  elim c.then-at-limit.branch [
    | then-at-limit-via-then-at-limit w ↦ inl w.if-at-limit.true
    | then-at-limit-via-else-at-limit+then-not-is_going w ↦ inr (w.is_going.ensures.gone w.if-not-is_going.true)
  ],
  refl,
)

pub returns-in_default-clause-seen : goal.returns-in_default-clause-seen
returns-in_default-clause-seen g c = inr (inl (
  c.settle_at-turn.result,
  told_of g.T.TakesTurns.meaning g.W.Watch.sees c.args.self.now c.args.entry.now.thread c.settle_at-turn.result
      c.as_mut_slice-threads.result.now c.settle_at-turn.new.threads c.args.watch.now c.settled.new.self c.as_mut_slice-threads.ensures.value
      c.settle_at-turn.ensures.settled c.settled.ensures,
  λ is. c.in_default.not-Wants c.args.entry.now.event is,
))

pub returns-then-not-is_same_event-clause-seen : goal.returns-then-not-is_same_event-clause-seen
returns-then-not-is_same_event-clause-seen g c = inr (inl (
  c.settle_at-turn.result,
  told_of g.T.TakesTurns.meaning g.W.Watch.sees c.args.self.now c.args.entry.now.thread c.settle_at-turn.result
      c.as_mut_slice-threads.result.now c.settle_at-turn.new.threads c.args.watch.now c.settled.new.self c.as_mut_slice-threads.ensures.value
      c.settle_at-turn.ensures.settled c.settled.ensures,
  λ is. c.is_same_event.ensures.other c.if-not-is_same_event.true (same_wanted c.in-Wants.is is),
))

pub returns-clause-seen : goal.returns-clause-seen
returns-clause-seen g c =
    let same : c.in-Wants.wanted ≡ c.args.entry.now.event = c.is_same_event.ensures.same c.if-not-is_same_event.false in
    seen_by g.T.TakesTurns.meaning g.W.Watch.sees c.args.limit c.args.at c.args.self.now c.args.entry.now c.make.result
    c.args.watch.now c.show_event.new.watch
    (shown_of g.T.TakesTurns.meaning g.W.Watch.sees c.args.self.now c.args.entry.now c.settle_at-turn.result
    c.as_mut_slice-threads.result.now c.settle_at-turn.new.threads c.args.watch.now c.settled.new.self c.show_event.new.watch
    c.as_mut_slice-threads.ensures.value c.settle_at-turn.ensures.settled
    (c.in-Wants.is ∙ ap (λ (e : Event). turns.Wants e) same) c.settled.ensures c.show_event.ensures)
