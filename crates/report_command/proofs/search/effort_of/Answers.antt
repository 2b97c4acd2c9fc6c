use Rattle.report_command.proofs.search.effort_of.Goals as goal

pub returns : goal.returns
returns c = record {
  shrink_time_is = c.in_ok-shrink_time.ensures.found;
  time_is = c.in_ok-time.ensures.found;
  jobs_is = c.in_ok-jobs.ensures.found;
}
