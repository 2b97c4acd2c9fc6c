use Rattle.std.proofs.Common.{get_or, refl}
use Rattle.show_rows.proofs.Texts.{none_yet, text_next}
use Rattle.show_moments.specs.Lines.{SaysOther}
use Rattle.show_moments.specs.Scenes.{seen}
use Rattle.show_moments.proofs.Telling.{all_told}
use Rattle.show_moments.proofs.scene.Scene.write_others.Goals as goal

pub loop-k-init : goal.loop-k-init
loop-k-init g c = none_yet (SaysOther (seen c.args.self.now)) c.args.others.now _

pub loop-k-preserved : goal.loop-k-preserved
loop-k-preserved g c = text_next (SaysOther (seen c.args.self.now)) c.args.others.now c.loop-k.k 0
    (get_or c.args.others.now c.loop-k.k 0) _ _ _ _ c.loop-k-test.true refl c.loop-k.invariant c.in_ok-text.ensures
    c.in_ok-write.ensures.bytes

pub returns : goal.returns
returns g c = all_told (SaysOther (seen c.args.self.now)) c.args.others.now c.loop-k.k _ _ c.loop-k-test.false
    c.loop-k.invariant
