use Rattle.report_command.proofs.show.look_of.Goals as goal

pub returns-clause-asks : goal.returns-clause-asks
returns-clause-asks c = record {
  lines = c.in_ok-lines.ensures;
  threads = c.in_ok-threads.ensures;
  bytes = c.in_ok-bytes.ensures;
  width = c.in_ok-width.ensures.found;
  color = c.color_of.ensures;
  source = c.text_if_any.ensures;
  view = c.in_ok-view.ensures.asks;
}
