use Rattle.show_waits.proofs.waits.wait_told.Goals as goal

pub returns-in_default-clause-none : goal.returns-in_default-clause-none
returns-in_default-clause-none c = λ none. c.stand_of.ensures.none c.in_default.is
