use Rattle.bench.proofs.main.Given as goal

-- the recorder that was just prepared
abbrev pub ghosts-over_recorder : goal.ghosts-over_recorder
ghosts-over_recorder g a = record { table = a.prepared.table; opening = a.prepared.opening; limit = a.prepared.limit }

-- the row that was just prepared
abbrev pub ghosts-over_words : goal.ghosts-over_words
ghosts-over_words g a = record { table = a.prepared.table; opening = a.prepared.opening; limit = a.prepared.limit }

-- the recorder that was just prepared
abbrev pub ghosts-run : goal.ghosts-run
ghosts-run g a = record { table = a.prepared.table; opening = a.prepared.opening; limit = a.prepared.limit }
