use Rattle.std.proofs.Common.{refl}
use Rattle.show_moments.specs.Scenes.{seen}
use Rattle.show_moments.proofs.Scenes.{not_spawned, spawned}
use Rattle.show_moments.proofs.scene.Scene.thread.Goals as goal

pub returns-then-not-is_spawned : goal.returns-then-not-is_spawned
returns-then-not-is_spawned c =
    not_spawned (seen c.args.self.now) c.args.thread c.is_spawned.result c.is_spawned.ensures c.if-not-is_spawned.true

pub returns : goal.returns
returns c = spawned (seen c.args.self.now) c.args.thread c.is_spawned.result _ c.is_spawned.ensures c.if-not-is_spawned.false refl
    c.in_ok-next.ensures
