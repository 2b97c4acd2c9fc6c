use Rattle.report_runs.proofs.recording.over_new_memory.Given as goal

-- the recorder that was just prepared
abbrev pub ghosts-over_recorder : goal.ghosts-over_recorder
ghosts-over_recorder g a = record { table = a.prepared.table; opening = a.prepared.opening; limit = a.prepared.limit }
