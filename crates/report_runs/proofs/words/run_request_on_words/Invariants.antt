use Rattle.report_runs.proofs.words.run_request_on_words.Given as goal

-- the row that was just prepared
abbrev pub ghosts-over_row : goal.ghosts-over_row
ghosts-over_row g a = record { table = a.prepared.table; opening = a.prepared.opening; limit = a.prepared.limit }
