use Rattle.waiters_desk.proofs.desk.Desk.ask.Goals as goal

pub returns-clause-stays : goal.returns-clause-stays
returns-clause-stays g c = c.put.ensures.stays

pub returns-clause-asked : goal.returns-clause-asked
returns-clause-asked g c = c.put.ensures.asked

pub returns-clause-full : goal.returns-clause-full
returns-clause-full g c = c.put.ensures.full

pub returns-clause-exempt : goal.returns-clause-exempt
returns-clause-exempt g c = c.put.ensures.exempt

pub returns-clause-reads : goal.returns-clause-reads
returns-clause-reads g c = c.put.ensures.reads
