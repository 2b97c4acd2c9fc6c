use Rattle.report_jobs.specs.Prints.{written}
use Rattle.report_jobs.specs.Undone.{ended_status}
use Rattle.report.proofs.Plain.{is_plain, performs}
use Rattle.report.proofs.job.perform_silent.Goals as goal

pub perform_plain-requires-clause-plain : goal.perform_plain-requires-clause-plain
perform_plain-requires-clause-plain g c κs within =
    is_plain c.args.job.now c.in_default.not-Show c.in_default.not-Races c.in_default.not-Search

pub returns-in_default-clause-performs : goal.returns-in_default-clause-performs
returns-in_default-clause-performs g c =
    let job = c.args.job.now in
    performs job c.args.bytes.«module».now c.args.bytes.saved.now
    (written g.W.Write.contents g.E.Write.contents g.S.Write.contents c.args.streams.now c.perform_plain.new.streams)
    (ended_status c.perform_plain.result)
    (is_plain job c.in_default.not-Show c.in_default.not-Races c.in_default.not-Search) c.perform_plain.ensures.performs

pub returns-in-Show-clause-performs : goal.returns-in-Show-clause-performs
returns-in-Show-clause-performs g c =
    rw c.in-Show.is (record {
      shown = c.show_saved.ensures.shown;
      prints = c.show_saved.ensures.prints;
      refused = c.show_saved.ensures.refused;
      absent = c.show_saved.ensures.absent;
      none = c.show_saved.ensures.none;
      statuses = c.show_saved.ensures.status;
    })

pub returns-in-Races-clause-performs : goal.returns-in-Races-clause-performs
returns-in-Races-clause-performs g c =
    rw c.in-Races.is (record {
      prints = c.races_saved.ensures.prints;
      free = c.races_saved.ensures.free;
      racy = c.races_saved.ensures.racy;
      refused = c.races_saved.ensures.refused;
      absent = c.races_saved.ensures.absent;
      named = c.races_saved.ensures.named;
      unfit = c.races_saved.ensures.none;
      statuses = c.races_saved.ensures.status;
    })

pub returns-in-Search-clause-performs : goal.returns-in-Search-clause-performs
returns-in-Search-clause-performs g c =
    rw c.in-Search.is (record {
      made = c.search.ensures.made;
      refused = c.search.ensures.refused;
      cannot = c.search.ensures.cannot;
      statuses = c.search.ensures.status;
    })
