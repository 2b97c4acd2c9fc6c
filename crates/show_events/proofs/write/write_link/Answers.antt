use Rattle.std.proofs.Common.{◌∙◌}
use Rattle.show_events.proofs.Behind.{two_lines}
use Rattle.show_events.proofs.Said.{arrow_says}
use Rattle.show_events.proofs.write.write_link.Goals as goal

pub returns-clause-lines : goal.returns-clause-lines
returns-clause-lines g c = two_lines _ _ _ c.in_ok-write_line.ensures.line c.in_ok-write_line-2.ensures.line

pub returns-clause-which : goal.returns-clause-which
returns-clause-which g c = arrow_says c.args.among.now c.args.number c.args.link c.in-Some.from c.in-Some-thread_among.to c.kind_text-kind.result.now
    c.as_str.result.now c.as_str-2.result.now _ _ _ c.in-Some.ensures c.in-Some-thread_among.ensures c.kind_text-kind.ensures
    (c.as_str.ensures.value ∙ c.in_ok-start.ensures) (c.as_str-2.ensures.value ∙ c.in_ok-finish.ensures)
    c.in_ok-write_line.ensures.text c.in_ok-write_line-2.ensures.text
