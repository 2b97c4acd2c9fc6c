use Rattle.report_finds.proofs.raced.smaller_racy.Goals as goal

pub returns-clause-run : goal.returns-clause-run
returns-clause-run g c = c.in-Ok.ensures.run
