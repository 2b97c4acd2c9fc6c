use Rattle.std.proofs.Common.{IfOk, subst, ℤ, w64, to_z, of_z}
use Rattle.std.proofs.lemmas.Result.{IfOk-weaker}
use Rattle.std.proofs.Math.Facts.{to_z-of_z}
use Rattle.waiters_desk.specs.Calls.{Waits}
use Rattle.waiters_desk.specs.Locks.{WaitReads}
use Rattle.waiters_desk.proofs.Locks.{wait_reads}
use Rattle.waiters_desk.proofs.desk.Desk.wait.Goals as goal

pub returns-clause-reads : goal.returns-clause-reads
returns-clause-reads g c =
    let m = g.M.SharedMemory in
    let n = m.name c.args.seat.now in
    let before = m.seen c.args.seat.now in
    let after = m.seen c.ask.new.seat in
    let timeout : ℤ = to_z w64 (of_z w64 c.args.timeout) in
    subst (λ (t : ℤ). IfOk c.ask.result (WaitReads m.opening n c.args.addr c.args.width c.args.expected t before after)) (to_z-of_z c.ranges.timeout)
    (IfOk-weaker c.ask.result (Waits m.opening (m.limit c.args.memory.now) n c.args.addr c.args.width c.args.expected timeout before after)
    (WaitReads m.opening n c.args.addr c.args.width c.args.expected timeout before after)
    (λ got did. wait_reads m.opening (m.limit c.args.memory.now) n c.args.addr c.args.width c.args.expected timeout before after got did)
    c.ask.ensures.asked)

pub returns-clause-stays : goal.returns-clause-stays
returns-clause-stays g c = c.ask.ensures.stays

pub returns-clause-full : goal.returns-clause-full
returns-clause-full g c = c.ask.ensures.full

pub returns-clause-others : goal.returns-clause-others
returns-clause-others g c = c.ask.ensures.reads
