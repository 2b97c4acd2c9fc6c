use Rattle.std.proofs.Common.{◌∙◌, sym}
use Rattle.show_races.proofs.Alike.{alike_no, alike_yes}
use Rattle.show_races.proofs.Firsts.{told_here, untold, untold_next}
use Rattle.show_races.proofs.found.is_known.Goals as goal

pub loop-at-preserved : goal.loop-at-preserved
loop-at-preserved c = untold_next c.args.shown c.args.story.now c.args.known.now c.args.race c.loop-at.at _ c.loop-at-test.true
    (λ same. alike_no c.places_of.result c.places_of-places.result c.is_alike.result c.is_alike.ensures c.if-is_alike.false
    (c.places_of.ensures ∙ (same ∙ sym c.places_of-places.ensures))) c.loop-at.invariant

pub returns-then-is_alike-clause-told : goal.returns-then-is_alike-clause-told
returns-then-is_alike-clause-told c = λ _. told_here c.args.shown c.args.story.now c.args.known.now c.args.race c.loop-at.at _
    c.loop-at-test.true (sym c.places_of.ensures ∙ (alike_yes c.places_of.result c.places_of-places.result c.is_alike.result
    c.is_alike.ensures c.if-is_alike.true ∙ c.places_of-places.ensures))

pub returns-clause-untold : goal.returns-clause-untold
returns-clause-untold c = λ _. untold c.args.shown c.args.story.now c.args.known.now c.loop-at.at c.args.race c.loop-at-test.false
    c.loop-at.invariant
