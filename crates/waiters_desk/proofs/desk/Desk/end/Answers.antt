use Rattle.waiters_desk.proofs.desk.Desk.end.Goals as goal

pub returns-clause-stays : goal.returns-clause-stays
returns-clause-stays g c = c.ask.ensures.stays
