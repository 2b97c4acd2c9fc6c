use Rattle.waiters_desk.proofs.desk.Desk.spawn.Goals as goal

pub returns-in_err-id-clause-stays : goal.returns-in_err-id-clause-stays
returns-in_err-id-clause-stays g c = c.ask.ensures.stays

pub returns-clause-stays : goal.returns-clause-stays
returns-clause-stays g c = c.ask.ensures.stays

pub returns-clause-full : goal.returns-clause-full
returns-clause-full g c = tt

pub returns-clause-spawned : goal.returns-clause-spawned
returns-clause-spawned g c = rw (c.in-Told.is) at c.in_ok-id.ensures.asked
