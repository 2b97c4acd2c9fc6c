use Rattle.report_jobs.proofs.plain.perform_plain.Goals as goal

pub returns-in-Run-clause-performs : goal.returns-in-Run-clause-performs
returns-in-Run-clause-performs g c =
    rw c.in-Run.is (record {
      made = c.run.ensures.made;
      refused = c.run.ensures.refused;
      cannot = c.run.ensures.cannot;
      statuses = c.run.ensures.status;
    })

pub returns-in-Replay-clause-performs : goal.returns-in-Replay-clause-performs
returns-in-Replay-clause-performs g c =
    rw c.in-Replay.is (record {
      replayed = c.replay_saved.ensures.replayed;
      refused = c.replay_saved.ensures.refused;
      none = c.replay_saved.ensures.none;
      statuses = c.replay_saved.ensures.status;
    })
