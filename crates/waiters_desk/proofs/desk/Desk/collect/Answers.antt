use Rattle.waiters_desk.proofs.desk.Desk.collect.Goals as goal

pub returns-clause-stays : goal.returns-clause-stays
returns-clause-stays g c = c.collect.ensures.stays

pub returns-clause-collected : goal.returns-clause-collected
returns-clause-collected g c = c.collect.ensures.collected
