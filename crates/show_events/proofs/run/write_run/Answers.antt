use Rattle.std.proofs.Common.{◌∙◌}
use Rattle.show_events.proofs.Behind.{whole}
use Rattle.show_events.proofs.Said.{run_of}
use Rattle.show_events.proofs.run.write_run.Goals as goal

pub returns-clause-lines : goal.returns-clause-lines
returns-clause-lines g c =
    let all = whole _ _ _ _ _ _ _ _ _ c.in_ok-write_line.ensures.line c.in_ok-write_each.ensures.lines
    c.in_ok-write_each-2.ensures.lines c.in_ok-write_each-3.ensures.lines c.in_ok-write_line-2.ensures.line in
    (all.0, all.2)

pub returns-clause-which : goal.returns-clause-which
returns-clause-which g c = run_of c.args.«record».now c.args.chosen c.args.moments.now c.as_slice.result.now c.as_slice-2.result.now
    c.as_str.result.now _ _ _ _ _ _ c.as_slice.ensures c.as_slice-2.ensures (c.as_str.ensures.value ∙ c.in_ok-head.ensures)
    c.in_ok-write_line.ensures.text c.in_ok-write_each.ensures.which c.in_ok-write_each-2.ensures.which
    c.in_ok-write_each-3.ensures.which c.in_ok-write_line-2.ensures.text
