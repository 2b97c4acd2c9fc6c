use Rattle.std.proofs.Common.{◌≡◌, ℕ, refl, sym, ◌∙◌, ap, subst}
use Rattle.types.specs.declared.event.Entry.{Entry}
use Rattle.shared_memory.specs.Memory.{Memory, reply_of, state_after}
use Rattle.schedule_threads.specs.Shared.{act_of}
use Rattle.replay_walk.specs.Walked.{HasTaken}
use Rattle.replay_walk.proofs.Taken.{took_as}
use Rattle.replay_walk.proofs.Ending.{goes_on}
use Rattle.search_scheduled.specs.Heard.{IsMadeBy}
use Rattle.search_scheduled.proofs.Listening.{made_plain}
use Rattle.search_scheduled.proofs.Leaving.{ended_leaves, full_leaves, wants_on, can_event_on, event_act_on}
use Rattle.search_scheduled.proofs.making.go_on.Goals as goal

pub leave-requires : goal.leave-requires
leave-requires g c =
    let r = c.requires in (
      r.0,
      c.args.limit,
      c.args.at,
      ended_leaves g.T.TakesTurns.meaning r.0 c.args.n c.args.turn c.args.walk.now r.1 c.args.limit c.args.at c.in-Ended.outcome c.in-Ended.is,
    )

pub leave-requires-in-Wants : goal.leave-requires-in-Wants
leave-requires-in-Wants g c =
    let r = c.requires in (
      r.0,
      c.args.limit,
      c.args.at,
      full_leaves g.T.TakesTurns.meaning r.0 c.args.n c.args.turn c.args.walk.now r.1 c.args.limit c.args.at c.in-Wants.field-0 c.in-Wants.is
          c.if-at-limit.true,
    )

pub make-reply-requires-clause-wants : goal.make-reply-requires-clause-wants
make-reply-requires-clause-wants g c =
    let r = c.requires in (
      r.0,
      r.1.thread,
      wants_on g.T.TakesTurns.meaning r.0 c.args.n c.args.turn c.args.walk.now r.1 c.in-Wants-2.event c.in-Wants-2.is r.2,
      r.3,
    )

pub returns-in-Ended-clause-taken : goal.returns-in-Ended-clause-taken
returns-in-Ended-clause-taken g c = λ e is s d same.
    let new = c.leave.new.walk in
    let here : c.leave.result ≡ e = cc is in
    let taken = c.leave.ensures.taken s c.args.limit c.args.at
    (ended_leaves g.T.TakesTurns.meaning s c.args.n c.args.turn c.args.walk.now d c.args.limit c.args.at c.in-Ended.outcome c.in-Ended.is) same in
    subst (λ (x : Entry). HasTaken g.T.TakesTurns.meaning s c.args.limit c.args.at x.thread (act_of x) new.threads.items new.memory
    new.stage.queue new.stage.started new.stage.ends) here
    (subst (λ (k : ℕ). HasTaken g.T.TakesTurns.meaning s c.args.limit c.args.at k (act_of c.leave.result) new.threads.items new.memory
    new.stage.queue new.stage.started new.stage.ends) (sym (ap (λ (x : Entry). x.thread) c.leave.ensures.entry)) taken)

pub returns-in-Wants-clause-taken : goal.returns-in-Wants-clause-taken
returns-in-Wants-clause-taken g c = λ e is s d same.
    let new = c.leave-in-Wants.new.walk in
    let here : c.leave-in-Wants.result ≡ e = cc is in
    let taken = c.leave-in-Wants.ensures.taken s c.args.limit c.args.at
    (full_leaves g.T.TakesTurns.meaning s c.args.n c.args.turn c.args.walk.now d c.args.limit c.args.at c.in-Wants.field-0 c.in-Wants.is
    c.if-at-limit.true) same in
    subst (λ (x : Entry). HasTaken g.T.TakesTurns.meaning s c.args.limit c.args.at x.thread (act_of x) new.threads.items new.memory
    new.stage.queue new.stage.started new.stage.ends) here
    (subst (λ (k : ℕ). HasTaken g.T.TakesTurns.meaning s c.args.limit c.args.at k (act_of c.leave-in-Wants.result) new.threads.items new.memory
    new.stage.queue new.stage.started new.stage.ends) (sym (ap (λ (x : Entry). x.thread) c.leave-in-Wants.ensures.entry)) taken)

pub returns-in-Wants-2-clause-taken : goal.returns-in-Wants-2-clause-taken
returns-in-Wants-2-clause-taken g c = λ e is s d same.
    let m = g.T.TakesTurns.meaning in
    let n = c.args.n in
    let w = c.args.walk.now in
    let new = c.make-reply.new.walk in
    let event = c.in-Wants-2.event in
    let v = c.make-reply.result in
    let reply : v ≡ reply_of s.memory event = c.make-reply.ensures.reply ∙ ap (λ (x : Memory). reply_of x event) (sym same) in
    let can = can_event_on m s n c.args.turn w d event c.in-Wants-2.is c.args.limit c.args.at c.if-at-limit.false v reply in
    let wants = wants_on m s n c.args.turn w d event c.in-Wants-2.is same in
    let taken = took_as m s c.args.limit c.args.at n event v d.thread can _ (event_act_on m s n c.args.turn w d event c.in-Wants-2.is v)
    _ new.threads.items refl new.memory new.stage.queue new.stage.started new.stage.ends
    (ap (λ (x : Memory). state_after x event) same ∙ sym c.make-reply.ensures.memory) (c.make-reply.ensures.made s d.thread wants) in
    let entry : Entry = record { thread = n; event = event; reply = v } in
    let here : entry ≡ e = cc is in
    subst (λ (x : Entry). HasTaken m s c.args.limit c.args.at x.thread (act_of x) new.threads.items new.memory
    new.stage.queue new.stage.started new.stage.ends) here taken

pub returns-in-Ended-clause-made : goal.returns-in-Ended-clause-made
returns-in-Ended-clause-made g c =
    subst (λ (e : Entry). IsMadeBy e.event c.args.turn c.args.walk.now.threads.items c.leave.new.walk.threads.items)
    (sym c.leave.ensures.entry) c.leave.ensures.threads

pub returns-in-Wants-clause-made : goal.returns-in-Wants-clause-made
returns-in-Wants-clause-made g c =
    subst (λ (e : Entry). IsMadeBy e.event c.args.turn c.args.walk.now.threads.items c.leave-in-Wants.new.walk.threads.items)
    (sym c.leave-in-Wants.ensures.entry) c.leave-in-Wants.ensures.threads

pub returns-in-Wants-2-clause-made : goal.returns-in-Wants-2-clause-made
returns-in-Wants-2-clause-made g c =
    let r = c.requires in
    let event = c.in-Wants-2.event in
    let wants = wants_on g.T.TakesTurns.meaning r.0 c.args.n c.args.turn c.args.walk.now r.1 event c.in-Wants-2.is r.2 in
    made_plain event c.args.turn c.args.walk.now.threads.items c.make-reply.new.walk.threads.items
    (goes_on (r.0).program (r.1).thread event (wants.on).here wants.none wants.wants).plain c.in-Wants-2.is
