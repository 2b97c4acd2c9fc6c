use Rattle.show_moments.specs.Scenes.{seen}
use Rattle.show_moments.proofs.Scenes.{values_next}
use Rattle.show_moments.proofs.scene.Scene.values.Goals as goal

pub loop-k-preserved : goal.loop-k-preserved
loop-k-preserved c = values_next (seen c.args.self.now) c.args.opened c.args.values.now c.loop-k.k c.index-values-k.result
    c.index-values-k.result _ _ _ c.loop-k-test.true c.index-values-k.is c.loop-k.invariant c.in_ok-told.ensures
    c.in_ok-put_if_any.ensures
