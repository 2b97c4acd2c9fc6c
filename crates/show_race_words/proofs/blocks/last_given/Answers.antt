use Rattle.std.proofs.Common.{◌∙◌, sym}
use Rattle.show_race_words.proofs.Giving.{given_next, none_next}
use Rattle.show_race_words.proofs.blocks.last_given.Goals as goal

pub loop-at-preserved : goal.loop-at-preserved
loop-at-preserved c =
    given_next c.args.shown c.args.byte c.loop-at.at c.in-Some.into (sym c.into_given.ensures ∙ c.in-Some.is)

pub loop-at-preserved-in_default : goal.loop-at-preserved-in_default
loop-at-preserved-in_default c = none_next c.args.shown c.args.byte c.loop-at.at c.loop-at.last c.loop-at.invariant
    (sym c.into_given.ensures ∙ c.in_default.is)
