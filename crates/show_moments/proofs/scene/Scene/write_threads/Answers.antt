use Rattle.show_rows.proofs.Texts.{none_yet, text_next}
use Rattle.show_moments.specs.Lines.{SaysThread}
use Rattle.show_moments.specs.Scenes.{seen}
use Rattle.show_moments.proofs.Telling.{all_told}
use Rattle.show_moments.proofs.scene.Scene.write_threads.Goals as goal

pub loop-k-init : goal.loop-k-init
loop-k-init g c = none_yet (SaysThread (seen c.args.self.now)) c.args.threads.now _

pub loop-k-preserved : goal.loop-k-preserved
loop-k-preserved g c = text_next (SaysThread (seen c.args.self.now)) c.args.threads.now c.loop-k.k c.index-threads-k.result
    c.index-threads-k.result _ _ _ _ c.loop-k-test.true c.index-threads-k.is c.loop-k.invariant c.in_ok-text.ensures
    c.in_ok-write.ensures.bytes

pub returns : goal.returns
returns g c = all_told (SaysThread (seen c.args.self.now)) c.args.threads.now c.loop-k.k _ _ c.loop-k-test.false
    c.loop-k.invariant
