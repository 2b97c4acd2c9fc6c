use Rattle.waiters_desk.specs.declared.answers.Notified.TheVariants.{OutOfBounds, Woke}
use Rattle.waiters_desk.proofs.Locks.{notify_behind}
use Rattle.waiters_desk.proofs.desk.Desk.notify.Goals as goal

pub returns-in-OutOfBounds-clause-reads : goal.returns-in-OutOfBounds-clause-reads
returns-in-OutOfBounds-clause-reads g c =
    let m = g.M.SharedMemory in
    let did = rw (c.in-OutOfBounds.is) at c.in_ok-ask.ensures.asked in
    notify_behind m.opening (m.limit c.args.memory.now) (m.name c.args.seat.now) c.args.addr c.args.count _ _ OutOfBounds did

pub returns-in-Told-clause-reads : goal.returns-in-Told-clause-reads
returns-in-Told-clause-reads g c =
    let m = g.M.SharedMemory in
    let did = rw (c.in-Told.is) at c.in_ok-ask.ensures.asked in
    notify_behind m.opening (m.limit c.args.memory.now) (m.name c.args.seat.now) c.args.addr c.args.count _ _ (Woke c.in-Told.number) did

pub returns-in_err-ask-clause-stays : goal.returns-in_err-ask-clause-stays
returns-in_err-ask-clause-stays g c = c.ask.ensures.stays

pub returns-in_err-ask-clause-others : goal.returns-in_err-ask-clause-others
returns-in_err-ask-clause-others g c = c.ask.ensures.reads

pub returns-in-OutOfBounds-clause-stays : goal.returns-in-OutOfBounds-clause-stays
returns-in-OutOfBounds-clause-stays g c = c.ask.ensures.stays

pub returns-in-OutOfBounds-clause-notified : goal.returns-in-OutOfBounds-clause-notified
returns-in-OutOfBounds-clause-notified g c = rw (c.in-OutOfBounds.is) at c.in_ok-ask.ensures.asked

pub returns-in-OutOfBounds-clause-full : goal.returns-in-OutOfBounds-clause-full
returns-in-OutOfBounds-clause-full g c = tt

pub returns-in-OutOfBounds-clause-others : goal.returns-in-OutOfBounds-clause-others
returns-in-OutOfBounds-clause-others g c = c.ask.ensures.reads

pub returns-in-Told-clause-stays : goal.returns-in-Told-clause-stays
returns-in-Told-clause-stays g c = c.ask.ensures.stays

pub returns-in-Told-clause-notified : goal.returns-in-Told-clause-notified
returns-in-Told-clause-notified g c = rw (c.in-Told.is) at c.in_ok-ask.ensures.asked

pub returns-in-Told-clause-full : goal.returns-in-Told-clause-full
returns-in-Told-clause-full g c = tt

pub returns-in-Told-clause-others : goal.returns-in-Told-clause-others
returns-in-Told-clause-others g c = c.ask.ensures.reads
