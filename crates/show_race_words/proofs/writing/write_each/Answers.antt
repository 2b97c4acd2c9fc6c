use Rattle.std.proofs.Common.{refl}
use Rattle.show_race_words.specs.Written.{SaysRace}
use Rattle.show_race_words.proofs.Telling.{told_each}
use Rattle.show_rows.proofs.Texts.{none_yet, text_next}
use Rattle.show_race_words.proofs.writing.write_each.Goals as goal

pub loop-at-init : goal.loop-at-init
loop-at-init g c = none_yet (SaysRace c.args.shown c.args.map.now c.args.story.now c.args.stacks c.as_slice-sites.result.now) c.as_slice-pairs.result.now
    (g.W.Write.contents c.args.out.now)

pub loop-at-preserved : goal.loop-at-preserved
loop-at-preserved g c = text_next (SaysRace c.args.shown c.args.map.now c.args.story.now c.args.stacks c.as_slice-sites.result.now)
    c.as_slice-pairs.result.now c.loop-at.at _ _ _ _ _ _ c.loop-at-test.true refl c.loop-at.invariant c.in_ok-text.ensures
    c.in_ok-write.ensures.bytes

pub returns : goal.returns
returns g c = told_each c.args.shown c.args.map.now c.args.story.now c.args.stacks c.args.races.now c.as_slice-sites.result.now c.as_slice-pairs.result.now
    c.loop-at.at _ _ c.as_slice-sites.ensures.value c.as_slice-pairs.ensures.value c.loop-at-test.false c.loop-at.invariant
