use Rattle.std.proofs.Common.{sym, ◌∙◌, true≢false}
use Rattle.report_finds.proofs.all.endless_run.Goals as goal

pub returns-then-has_no_end-clause-some : goal.returns-then-has_no_end-clause-some
returns-then-has_no_end-clause-some c = (
  c.in-Some.liveness,
  c.in-Some.is,
  (c.has_no_end.ensures.0 c.if-has_no_end.true, c.as_slice.ensures.value),
)

pub returns-in-GoOn-clause-some : goal.returns-in-GoOn-clause-some
returns-in-GoOn-clause-some c = (
  c.in-Some.liveness,
  c.in-Some.is,
  (
    λ stuck. absurd (true≢false (sym (c.has_no_end.ensures.1 stuck) ∙ c.if-has_no_end.false)),
    c.in-GoOn.cycle,
    (sym c.looks_for_ever.ensures ∙ c.if-not-looks_for_ever.false, c.in-GoOn.is),
    c.as_slice-in-GoOn.ensures.value,
    c.as_slice-in-GoOn-2.ensures.value,
  ),
)
