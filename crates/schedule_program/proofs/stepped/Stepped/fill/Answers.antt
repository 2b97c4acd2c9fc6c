use Rattle.std.proofs.Common.{◌≡◌, true, not, sym, ◌∙◌, ap, subst}
use Rattle.std.specs.Prelude.{cond}
use Rattle.shared_memory.specs.Events.{is_exempt}
use Rattle.schedule.specs.System.{Want.Calls}
use Rattle.interp_trait.specs.Turns.{wants_of, IsHere}
use Rattle.schedule.specs.Machine.{thread_full}
use Rattle.schedule_threads.specs.Threads.{machine_of}
use Rattle.schedule_program.specs.Threads.{IsThread}
use Rattle.schedule_program.proofs.Turning.{calling, here_full, wants_such}
use Rattle.schedule_program.proofs.stepped.Stepped.fill.Goals as goal

pub give-requires : goal.give-requires
give-requires g c =
    let m = g.T.TakesTurns in
    let s = c.requires.0 in
    let t = c.requires.1 in
    let thread = c.requires.2 in
    let e = c.in-Some.event in
    let may : not (is_exempt e) ≡ true = ap not (sym c.needs_no_room.ensures ∙ c.if-not-needs_no_room.true) in
    let call = calling m.meaning s c.args.self.now.thread c.args.self.now.stage t e thread.stands_by (sym (c.wanted.ensures.wanted s t thread) ∙ c.in-Some.is)
    (λ leave. absurd (cc (sym may ∙ ap (λ z. not (is_exempt z)) leave))) in
    let same = sym thread.alike.program_is in (
      t,
      call.stands,
      subst (λ p. IsHere (thread_full (machine_of p) t)) same (here_full s.program t call.here),
      (call.none, e, subst (λ p. wants_of p t ≡ Calls e) same call.wants),
    )

pub returns-then-not-needs_no_room : goal.returns-then-not-needs_no_room
returns-then-not-needs_no_room g c s t thread =
    let m = g.T.TakesTurns in
    let p = s.program in
    let e = c.in-Some.event in
    let may : not (is_exempt e) ≡ true = ap not (sym c.needs_no_room.ensures ∙ c.if-not-needs_no_room.true) in
    let call = calling m.meaning s c.args.self.now.thread c.args.self.now.stage t e thread.stands_by (sym (c.wanted.ensures.wanted s t thread) ∙ c.in-Some.is)
    (λ leave. absurd (cc (sym may ∙ ap (λ z. not (is_exempt z)) leave))) in
    let such = wants_such p (λ z. not (is_exempt z)) t e call.none call.wants ∙ may in
    subst (λ b. IsThread m.meaning s c.give.new.self (cond b (thread_full (machine_of p) t) t)) (sym such)
    (c.give.ensures s t thread.alike call.stands (here_full p t call.here) (call.none, e, call.wants))
