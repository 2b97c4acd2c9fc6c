use Rattle.std.proofs.Common.{refl}
use Rattle.report_command.proofs.command_line.run_job.Goals as goal

pub returns-clause-asks : goal.returns-clause-asks
returns-clause-asks c = (
  refl,
  record {
    file = c.in_ok-file.ensures;
    call = c.in_ok-call.ensures.asks;
    memory = c.is_word.ensures;
    limit = c.in_ok-limit.ensures.found;
    limit_said = c.is_said.ensures;
    save = c.text_if_any.ensures;
    memory_in = c.in_ok-memory_in.ensures;
    memory_out = c.text_if_any-2.ensures;
    look = c.in_ok-look.ensures.asks;
  },
)
