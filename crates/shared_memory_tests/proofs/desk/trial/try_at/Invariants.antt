use Rattle.shared_memory_tests.proofs.desk.trial.try_at.Given as goal

-- the recorder that was just prepared
abbrev pub ghosts-make_at_recorder : goal.ghosts-make_at_recorder
ghosts-make_at_recorder g a = record { table = a.prepared.table; opening = a.prepared.opening; limit = a.prepared.limit }
