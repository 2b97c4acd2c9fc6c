use Rattle.std.proofs.Common.{refl}
use Rattle.report_command.proofs.races.races_job.Goals as goal

pub returns-clause-asks : goal.returns-clause-asks
returns-clause-asks c = (
  refl,
  record {
    file_is = c.in_ok-file.ensures;
    saved_is = c.in_ok-saved.ensures;
    names_is = c.text_if_any.ensures;
    most_is = c.in_ok-most.ensures.found;
    allow_is = c.in_ok-allow.ensures;
    form_is = c.form_of.ensures;
  },
)
