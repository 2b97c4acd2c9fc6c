use Rattle.std.proofs.Common.{◌≡◌, true, sym, ◌∙◌, ap, subst}
use Rattle.std.specs.Prelude.{cond}
use Rattle.shared_memory.specs.Events.{may_lose}
use Rattle.schedule.specs.Machine.{thread_lost}
use Rattle.schedule_threads.specs.Threads.{machine_of}
use Rattle.schedule_program.specs.Threads.{IsThread}
use Rattle.schedule_program.proofs.Turning.{calling, here_lost, wants_such}
use Rattle.schedule_program.proofs.stepped.Stepped.lose.Goals as goal

pub returns-then-can_be_lost : goal.returns-then-can_be_lost
returns-then-can_be_lost g c s t thread =
    let m = g.T.TakesTurns in
    let p = s.program in
    let e = c.in-Some.event in
    let may : may_lose e ≡ true = sym c.can_be_lost.ensures ∙ c.if-can_be_lost.true in
    let call = calling m.meaning s c.args.self.now.thread c.args.self.now.stage t e thread.stands_by (sym (c.wanted.ensures.wanted s t thread) ∙ c.in-Some.is)
    (λ leave. absurd (cc (sym may ∙ ap may_lose leave))) in
    let such = wants_such p may_lose t e call.none call.wants ∙ may in
    subst (λ b. IsThread m.meaning s c.give.new.self (cond b (thread_lost (machine_of p) t) t)) (sym such)
    (c.give.ensures s t thread.alike call.stands (here_lost p t call.here) (call.none, e, call.wants))
