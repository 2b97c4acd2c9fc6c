use Rattle.std.proofs.Common.{◌∙◌, sym, arith}
use Rattle.show_races.proofs.Releases.{none_left, none_next}
use Rattle.show_races.proofs.release.next_atomic_write.Goals as goal

pub loop-at-preserved : goal.loop-at-preserved
loop-at-preserved c = record {
  behind = omega (arith, c.loop-at.invariant.behind);
  none = none_next c.args.log.now c.args.sites.now c.args.thread c.args.first c.loop-at.at c.loop-at.invariant.none
      (sym c.is_atomic_write.ensures ∙ c.if-is_atomic_write.false);
}

pub returns : goal.returns
returns c = none_left c.args.log.now c.args.sites.now c.args.thread c.args.first c.loop-at.at (omega (arith, c.loop-at-test.false))
    c.loop-at.invariant.none
