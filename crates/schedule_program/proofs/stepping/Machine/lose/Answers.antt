use Rattle.std.proofs.Common.{rules, ◌<◌, length, refl, sym, subst}
use Rattle.shared_memory.specs.Events.{may_lose}
use Rattle.schedule.specs.Machine.{thread_lost}
use Rattle.schedule_threads.specs.Threads.{machine_of}
use Rattle.schedule_program.specs.Threads.{IsThread}
use Rattle.schedule_program.proofs.Slots.{thread_in}
use Rattle.schedule_program.proofs.Marks.{at_if}
use Rattle.schedule_program.proofs.stepping.Machine.lose.Goals as goal

pub returns-then-place-len : goal.returns-then-place-len
returns-then-place-len g c s w at =
    let m = g.T.TakesTurns in
    let n = c.args.n in
    let old = c.args.self.now in
    let within : n < length old.threads.items = search rules in
    let is = subst (λ z. IsThread m.meaning s z (w.threads n)) (sym c.index_mut.ensures.value)
    (thread_in m.meaning s old.threads.items w.threads n c.index_mut.result.now within at.threads) in
    at_if m.meaning s w n old _ c.lose.new.self may_lose (thread_lost (machine_of s.program) (w.threads n))
    (record { within = within; threads = refl; shared = refl; next = λ e. e }) at _ refl (c.lose.ensures s (w.threads n) is)
