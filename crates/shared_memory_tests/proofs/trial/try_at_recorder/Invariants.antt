use Rattle.shared_memory_tests.proofs.trial.try_at_recorder.Given as goal

-- the recorder that was just prepared
abbrev pub ghosts-make_at_recorder : goal.ghosts-make_at_recorder
ghosts-make_at_recorder g a = record { table = a.prepared.table; opening = a.prepared.opening; limit = a.prepared.limit }
