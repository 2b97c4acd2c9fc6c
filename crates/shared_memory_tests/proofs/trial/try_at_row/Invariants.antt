use Rattle.shared_memory_tests.proofs.trial.try_at_row.Given as goal

-- the row that was just prepared
abbrev pub ghosts-make_at_row : goal.ghosts-make_at_row
ghosts-make_at_row g a = record { table = a.prepared.table; opening = a.prepared.opening; limit = a.prepared.limit }
