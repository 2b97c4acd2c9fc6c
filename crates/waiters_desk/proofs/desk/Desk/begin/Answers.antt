use Rattle.waiters_desk.proofs.desk.Desk.begin.Goals as goal

pub returns-clause-stays : goal.returns-clause-stays
returns-clause-stays g c = c.begin.ensures.stays

pub returns-clause-begun : goal.returns-clause-begun
returns-clause-begun g c = c.begin.ensures.begun
