use Rattle.std.proofs.Common.{◌∙◌, sym, arith}
use Rattle.show_race_words.proofs.Starting.{none_left, none_next}
use Rattle.show_race_words.proofs.starts.start_of.Goals as goal

pub loop-at-preserved : goal.loop-at-preserved
loop-at-preserved c = none_next c.args.log.now c.args.story.now c.args.thread c.loop-at.at c.loop-at.invariant
    (sym c.is_start.ensures ∙ c.if-is_start.false)

pub returns : goal.returns
returns c = none_left c.args.log.now c.args.story.now c.args.thread c.loop-at.at (omega (arith, c.loop-at-test.false))
    c.loop-at.invariant
