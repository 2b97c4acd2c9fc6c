use Rattle.std.proofs.Common.{◌≡◌, flat_map, take}
use Rattle.show_moments.specs.Scenes.{others_of}
use Rattle.show_moments.proofs.scene.Scene.others.Given as goal

abbrev pub invariant-loop-k : goal.invariant-loop-k
invariant-loop-k l = l.others.items ≡ flat_map (others_of l.self.moment.now.at) (take l.k l.races)
