use Rattle.word_row.proofs.row.WordRow.access.Given as goal

abbrev pub ghosts-touch : goal.ghosts-touch
ghosts-touch g a = record { event = a.event }

abbrev pub ghosts-note : goal.ghosts-note
ghosts-note g a = record { event = a.event }
