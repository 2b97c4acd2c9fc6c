use Rattle.std.proofs.Common.{◌<◌, length, sym, subst, arith, get_or, set}
use Rattle.schedule.specs.Machine.{Thread.Absent, Thread.Runs}
use Rattle.schedule.specs.System.{put}
use Rattle.interp_trait.specs.Turns.{spawned_in}
use Rattle.schedule_program.specs.Threads.{IsThread}
use Rattle.schedule_program.specs.Runs.{with_spawned}
use Rattle.schedule_program.proofs.Slots.{thread_in, are_put, are_same}
use Rattle.schedule_program.proofs.Starting.{spawned_put, spawned_none}
use Rattle.schedule_program.proofs.stepping.Machine.start_next.Goals as goal

pub start-requires : goal.start-requires
start-requires g c =
    let m = g.T.TakesTurns in
    let r = c.requires.threads in
    let old = c.args.self.now in
    let x = c.index_mut.result.now in
    let within : old.next_id < length old.threads.items = omega (arith, c.requires.slots) in (
      r.0,
      subst (λ z. IsThread m.meaning r.0 z Absent) (sym c.index_mut.ensures.value)
          (subst (λ t. IsThread m.meaning r.0 (get_or old.threads.items old.next_id x) t) r.3
          (thread_in m.meaning r.0 old.threads.items r.1 old.next_id x within r.2)),
    )

pub returns-then-self-clause-threads : goal.returns-then-self-clause-threads
returns-then-self-clause-threads g c s f are absent =
    let m = g.T.TakesTurns in
    let old = c.args.self.now in
    let x = c.index_mut.result.now in
    let next = old.next_id in
    let within : next < length old.threads.items = omega (arith, c.requires.slots) in
    let is = subst (λ z. IsThread m.meaning s z Absent) (sym c.index_mut.ensures.value)
    (subst (λ t. IsThread m.meaning s (get_or old.threads.items next x) t) absent (thread_in m.meaning s old.threads.items f next x within are)) in
    let new = Runs (spawned_in s.worker next c.args.arg) s.fuel in
    are_same m.meaning s (set old.threads.items next c.start.new.self) (put f next new)
    (with_spawned s next c.args.arg f) (spawned_put s next c.args.arg f c.if-self.true)
    (are_put m.meaning s old.threads.items f next c.start.new.self new within are (c.start.ensures s is))

pub returns-else-self-clause-threads : goal.returns-else-self-clause-threads
returns-else-self-clause-threads g c s f are absent =
    let m = g.T.TakesTurns in
    let old = c.args.self.now in
    are_same m.meaning s old.threads.items f (with_spawned s old.next_id c.args.arg f) (spawned_none s old.next_id c.args.arg f c.if-self.false) are
