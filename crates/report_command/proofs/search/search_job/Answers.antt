use Rattle.std.proofs.Common.{refl}
use Rattle.report_command.proofs.search.search_job.Goals as goal

pub returns-clause-asks : goal.returns-clause-asks
returns-clause-asks c = (
  refl,
  record {
    file = c.in_ok-file.ensures;
    call = c.in_ok-call.ensures.asks;
    sought = c.in_ok-sought.ensures.asks;
    stops = c.in_ok-sought.ensures.stops;
    limit_said = c.is_said.ensures;
    shrink = c.is_set-shrink.ensures;
    effort = c.in_ok-effort.ensures;
    all = c.in_ok-all.ensures.asks;
    every_order = c.is_word.ensures;
    deep = c.is_set.ensures;
    races = c.is_set-races.ensures;
    allow_races = c.is_set-2.ensures;
    allow = c.in_ok-allow.ensures;
    until = c.text_if_any.ensures;
    save = c.text_if_any-2.ensures;
    form_is = c.form_of.ensures;
  },
)
