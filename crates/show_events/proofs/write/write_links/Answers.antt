use Rattle.std.proofs.Common.{refl}
use Rattle.show_events.specs.Events.{AddsArrow}
use Rattle.show_events.proofs.Behind.{some_more}
use Rattle.show_events.proofs.Events.{numbered_next, numbered_all}
use Rattle.show_events.proofs.write.write_links.Goals as goal

pub loop-number-preserved : goal.loop-number-preserved
loop-number-preserved g c = record {
  lines = some_more _ _ _ _ _ c.loop-number.invariant.lines.1 c.in_ok-write_link.ensures.lines.1;
  which = numbered_next (AddsArrow c.args.among.now) c.args.links.now c.loop-number.number _ _ c.loop-number-test.true refl _ _ _
      c.loop-number.invariant.which c.in_ok-write_link.ensures.which;
}

pub returns : goal.returns
returns g c = record {
  lines = c.loop-number.invariant.lines;
  which = numbered_all (AddsArrow c.args.among.now) c.args.links.now c.loop-number.number _ _ c.loop-number-test.false
      c.loop-number.invariant.which;
}
