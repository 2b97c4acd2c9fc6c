use Rattle.locked_recorder.proofs.steps.record.Given as goal

abbrev pub ghosts-enter : goal.ghosts-enter
ghosts-enter a = record { entry = a.entry.now }
