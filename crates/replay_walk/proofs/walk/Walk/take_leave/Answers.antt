use Rattle.std.proofs.Common.{sym, ◌∙◌, subst, inl, inr, refl}
use Rattle.std.proofs.lemmas.List.{take_at}
use Rattle.types.specs.declared.event.Event.{Event}
use Rattle.types.specs.declared.event.Event.TheVariants as events
use Rattle.types.specs.declared.event.Question.TheVariants.{Leave}
use Rattle.types.specs.declared.event.Reply.{Reply}
use Rattle.types.specs.declared.event.Reply.TheVariants.{Done}
use Rattle.types.specs.declared.event.Answer.{Answer}
use Rattle.types.specs.declared.outcome.Outcome.{Outcome}
use Rattle.shared_memory.proofs.Soundness.{alive_below}
use Rattle.schedule.specs.System.{Act}
use Rattle.schedule_threads.specs.Shared.{act_of}
use Rattle.interp_trait.specs.declared.turn.Turn.{Turn}
use Rattle.replay_walk.specs.Standing.{Says}
use Rattle.replay_walk.proofs.Apart.{isnt_true, isnt_false, ended_wants}
use Rattle.replay_walk.proofs.Made.{is_free}
use Rattle.replay_walk.specs.Walked.{IsRefused}
use Rattle.replay_walk.proofs.Acts.{leave_act}
use Rattle.replay_walk.proofs.Settled.{within, ready, settled}
use Rattle.replay_walk.proofs.Taken.{Leaves, leaves_ended, leaves_full, took_as}
use Rattle.replay_walk.proofs.Refused.{refused_gone, refused_leave}
use Rattle.replay_walk.proofs.Replaced.{count_back}
use Rattle.replay_walk.proofs.Seen.{told_of}
use Rattle.replay_walk.proofs.walk.Walk.take_leave.Goals as goal
use Rattle.replay_walk.proofs.walk.Walk.take_leave.Goals.{in-Ended, in-Wants+else-at-limit}

pub returns-then-not-is_going-clause-refused : goal.returns-then-not-is_going-clause-refused
returns-then-not-is_going-clause-refused g c = λ no s st.
    let act = leave_act c.args.entry.now c.requires.entry c.requires.kind in
    subst (λ (a : Act Event Reply Answer). IsRefused s c.args.limit c.args.at c.args.entry.now.thread a) (sym act)
    (refused_gone g.T.TakesTurns.meaning s c.args.self.now.threads.items c.args.self.now.stage.queue
    c.args.self.now.stage.started c.args.self.now.stage.ends st c.args.entry.now.thread c.args.limit
    c.args.at (events.Ask Leave) Done (λ free. c.is_going.ensures.gone c.if-not-is_going.true s c.args.self.now.threads.items st free))

pub settle_at-turn-requires-clause-within : goal.settle_at-turn-requires-clause-within
settle_at-turn-requires-clause-within g c =
    let s = c.requires.standing.0 in let st = c.requires.standing.1 in
    let going = c.is_going.ensures.going c.if-not-is_going.false s c.args.self.now.threads.items st in
    within g.T.TakesTurns.meaning s c.args.self.now.threads.items c.args.self.now.stage.queue
    c.args.self.now.stage.started c.args.self.now.stage.ends st c.args.entry.now.thread going
    c.deref_mut.result.now c.deref_mut.ensures.value

pub settle_at-turn-requires-clause-here : goal.settle_at-turn-requires-clause-here
settle_at-turn-requires-clause-here g c =
    let s = c.requires.standing.0 in let st = c.requires.standing.1 in
    let going = c.is_going.ensures.going c.if-not-is_going.false s c.args.self.now.threads.items st in
    ready g.T.TakesTurns.meaning s c.args.self.now.threads.items c.args.self.now.stage.queue
    c.args.self.now.stage.started c.args.self.now.stage.ends st c.args.entry.now.thread going
    c.deref_mut.result.now c.deref_mut.ensures.value

pub returns-then-at-limit-clause-refused : goal.returns-then-at-limit-clause-refused
returns-then-at-limit-clause-refused g c = λ no s st.
    let act = leave_act c.args.entry.now c.requires.entry c.requires.kind in
    let going = c.is_going.ensures.going c.if-not-is_going.false s c.args.self.now.threads.items st in
    let d = settled g.T.TakesTurns.meaning s c.args.self.now.threads.items c.args.self.now.stage.queue
    c.args.self.now.stage.started c.args.self.now.stage.ends st c.args.entry.now.thread going
    c.deref_mut.result.now c.deref_mut.ensures.value c.settle_at-turn.result c.settle_at-turn.new.threads c.settle_at-turn.ensures.settled in
    subst (λ (a : Act Event Reply Answer). IsRefused s c.args.limit c.args.at c.args.entry.now.thread a) (sym act)
    (refused_leave g.T.TakesTurns.meaning s c.args.self.now.threads.items c.args.self.now.stage.queue
    c.args.self.now.stage.started c.args.self.now.stage.ends st c.args.entry.now.thread c.args.limit
    c.args.at going c.settle_at-turn.result c.settle_at-turn.new.threads d (λ o is. ended_wants is c.in-Wants.is) (λ e is. c.if-at-limit.true))

pub returns-in_default-clause-refused : goal.returns-in_default-clause-refused
returns-in_default-clause-refused g c = λ no s st.
    let act = leave_act c.args.entry.now c.requires.entry c.requires.kind in
    let going = c.is_going.ensures.going c.if-not-is_going.false s c.args.self.now.threads.items st in
    let d = settled g.T.TakesTurns.meaning s c.args.self.now.threads.items c.args.self.now.stage.queue
    c.args.self.now.stage.started c.args.self.now.stage.ends st c.args.entry.now.thread going
    c.deref_mut.result.now c.deref_mut.ensures.value c.settle_at-turn.result c.settle_at-turn.new.threads c.settle_at-turn.ensures.settled in
    subst (λ (a : Act Event Reply Answer). IsRefused s c.args.limit c.args.at c.args.entry.now.thread a) (sym act)
    (refused_leave g.T.TakesTurns.meaning s c.args.self.now.threads.items c.args.self.now.stage.queue
    c.args.self.now.stage.started c.args.self.now.stage.ends st c.args.entry.now.thread c.args.limit
    c.args.at going c.settle_at-turn.result c.settle_at-turn.new.threads d (λ o is. c.in_default.not-Ended o is) (λ e is. absurd (c.in_default.not-Wants e is)))

pub leave-requires-clause-free : goal.leave-requires-clause-free
leave-requires-clause-free g c =
    let s = c.requires.standing.0 in let st = c.requires.standing.1 in
    let going = c.is_going.ensures.going c.if-not-is_going.false s c.args.self.now.threads.items st in
    let d = settled g.T.TakesTurns.meaning s c.args.self.now.threads.items c.args.self.now.stage.queue
    c.args.self.now.stage.started c.args.self.now.stage.ends st c.args.entry.now.thread going
    c.deref_mut.result.now c.deref_mut.ensures.value c.settle_at-turn.result c.settle_at-turn.new.threads c.settle_at-turn.ensures.settled in
    is_free g.T.TakesTurns.meaning s c.settle_at-turn.new.threads c.args.self.now.stage.queue c.args.self.now.stage.started
    c.args.self.now.stage.ends c.args.entry.now.thread d.thread d.on

pub leave-requires-clause-number : goal.leave-requires-clause-number
leave-requires-clause-number g c =
    let s = c.requires.standing.0 in let st = c.requires.standing.1 in
    let going = c.is_going.ensures.going c.if-not-is_going.false s c.args.self.now.threads.items st in
    alive_below c.args.self.now.stage.queue st.sound c.args.entry.now.thread going.alive

pub returns-clause-taken : goal.returns-clause-taken
returns-clause-taken g c = λ yes s st same.
    let act = leave_act c.args.entry.now c.requires.entry c.requires.kind in
    let going = c.is_going.ensures.going c.if-not-is_going.false s c.args.self.now.threads.items st in
    let d = settled g.T.TakesTurns.meaning s c.args.self.now.threads.items c.args.self.now.stage.queue
    c.args.self.now.stage.started c.args.self.now.stage.ends st c.args.entry.now.thread going
    c.deref_mut.result.now c.deref_mut.ensures.value c.settle_at-turn.result c.settle_at-turn.new.threads c.settle_at-turn.ensures.settled in
    let l : Leaves g.T.TakesTurns.meaning s c.settle_at-turn.new.threads c.args.self.now.stage.queue
    c.args.self.now.stage.started c.args.self.now.stage.ends c.args.entry.now.thread d.thread d.on d.settles
    c.args.limit c.args.at c.match-turn.outcome =
    elim c.match-turn.branch [
      | in-Ended w ↦ subst (λ (o : Outcome). Leaves g.T.TakesTurns.meaning s c.settle_at-turn.new.threads
          c.args.self.now.stage.queue c.args.self.now.stage.started c.args.self.now.stage.ends
          c.args.entry.now.thread d.thread d.on d.settles c.args.limit c.args.at o) (sym w.outcome-is)
          (leaves_ended g.T.TakesTurns.meaning s c.settle_at-turn.new.threads c.args.self.now.stage.queue
          c.args.self.now.stage.started c.args.self.now.stage.ends c.args.entry.now.thread d.thread d.on
          d.settles c.args.limit c.args.at w.in-Ended.outcome
          (subst (λ (t : Turn). Says s.program d.thread t) w.in-Ended.is d.says))
      | in-Wants+else-at-limit w ↦
          (let says = subst (λ (t : Turn). Says s.program d.thread t) w.in-Wants.is d.says in
          subst (λ (o : Outcome). Leaves g.T.TakesTurns.meaning s c.settle_at-turn.new.threads c.args.self.now.stage.queue
          c.args.self.now.stage.started c.args.self.now.stage.ends c.args.entry.now.thread
          d.thread d.on d.settles c.args.limit c.args.at o) (sym w.outcome-is)
          (leaves_full g.T.TakesTurns.meaning s c.settle_at-turn.new.threads c.args.self.now.stage.queue
          c.args.self.now.stage.started c.args.self.now.stage.ends c.args.entry.now.thread d.thread d.on
          d.settles c.args.limit c.args.at w.in-Wants.field-0 says.1 says.0 w.if-at-limit.false))
    ] in
    took_as g.T.TakesTurns.meaning s c.args.limit c.args.at c.args.entry.now.thread (events.Ask Leave) Done l.thread
    l.can (act_of c.args.entry.now) act _ c.settle_at-turn.new.threads
    (take_at c.settle_at-turn.new.threads _ c.args.self.now.threads.len (c.settle_at-turn.ensures.count ∙ c.deref_mut.ensures.len))
    c.args.self.now.memory c.leave.new.self.queue c.leave.new.self.started
    c.leave.new.self.ends same
    (c.leave.ensures.stands s d.thread l.thread c.settle_at-turn.new.threads d.on (l.can).wants l.ended l.left l.here)

pub returns-then-not-is_going-clause-taken : goal.returns-then-not-is_going-clause-taken
returns-then-not-is_going-clause-taken g c = λ yes. isnt_true yes

pub returns-then-at-limit-clause-taken : goal.returns-then-at-limit-clause-taken
returns-then-at-limit-clause-taken g c = λ yes. isnt_true yes

pub returns-in_default-clause-taken : goal.returns-in_default-clause-taken
returns-in_default-clause-taken g c = λ yes. isnt_true yes

pub returns-clause-refused : goal.returns-clause-refused
returns-clause-refused g c = λ no. isnt_false no

pub returns-in_default-clause-count : goal.returns-in_default-clause-count
returns-in_default-clause-count g c = count_back c.settle_at-turn.new.threads c.deref_mut.result.now _ _ _
    c.settle_at-turn.ensures.count c.deref_mut.ensures.value c.deref_mut.ensures.len

pub returns-then-at-limit-clause-count : goal.returns-then-at-limit-clause-count
returns-then-at-limit-clause-count g c = count_back c.settle_at-turn.new.threads c.deref_mut.result.now _ _ _
    c.settle_at-turn.ensures.count c.deref_mut.ensures.value c.deref_mut.ensures.len

pub returns-clause-count : goal.returns-clause-count
returns-clause-count g c = count_back c.settle_at-turn.new.threads c.deref_mut.result.now _ _ _
    c.settle_at-turn.ensures.count c.deref_mut.ensures.value c.deref_mut.ensures.len

pub returns-then-not-is_going-clause-seen : goal.returns-then-not-is_going-clause-seen
returns-then-not-is_going-clause-seen g c = inl (c.is_going.ensures.gone c.if-not-is_going.true, refl)

pub returns-then-at-limit-clause-seen : goal.returns-then-at-limit-clause-seen
returns-then-at-limit-clause-seen g c = inr (
  c.settle_at-turn.result,
  told_of g.T.TakesTurns.meaning g.W.Watch.sees c.args.self.now c.args.entry.now.thread c.settle_at-turn.result
      c.deref_mut.result.now c.settle_at-turn.new.threads c.args.watch.now c.settled.new.self c.deref_mut.ensures.value
      c.settle_at-turn.ensures.settled c.settled.ensures,
)

pub returns-in_default-clause-seen : goal.returns-in_default-clause-seen
returns-in_default-clause-seen g c = inr (
  c.settle_at-turn.result,
  told_of g.T.TakesTurns.meaning g.W.Watch.sees c.args.self.now c.args.entry.now.thread c.settle_at-turn.result
      c.deref_mut.result.now c.settle_at-turn.new.threads c.args.watch.now c.settled.new.self c.deref_mut.ensures.value
      c.settle_at-turn.ensures.settled c.settled.ensures,
)

pub returns-clause-seen : goal.returns-clause-seen
returns-clause-seen g c = (
  c.settle_at-turn.result,
  told_of g.T.TakesTurns.meaning g.W.Watch.sees c.args.self.now c.args.entry.now.thread c.settle_at-turn.result
      c.deref_mut.result.now c.settle_at-turn.new.threads c.args.watch.now c.settled.new.self c.deref_mut.ensures.value
      c.settle_at-turn.ensures.settled c.settled.ensures,
)
