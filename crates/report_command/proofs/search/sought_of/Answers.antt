use Rattle.report_command.proofs.search.sought_of.Goals as goal

pub returns-clause-asks : goal.returns-clause-asks
returns-clause-asks c = record {
  way = c.in_ok-way.ensures;
  seed = c.in_ok-seed.ensures.found;
  from = c.in_ok-from.ensures.found;
  runs = c.in_ok-runs.ensures.found;
  limit = c.in_ok-limit.ensures.found;
  dump = c.in_ok-dump.ensures.found;
  target = c.in_ok-target.ensures;
}
