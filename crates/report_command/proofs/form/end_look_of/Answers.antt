use Rattle.report_command.proofs.form.end_look_of.Goals as goal

pub returns-clause-asks : goal.returns-clause-asks
returns-clause-asks c = record {
  dump_is = c.in_ok-dump.ensures.found;
  units_is = c.is_set.ensures;
  traps_is = c.is_set-2.ensures;
  text_is = c.is_set-3.ensures;
  form_is = c.form_of.ensures;
}
