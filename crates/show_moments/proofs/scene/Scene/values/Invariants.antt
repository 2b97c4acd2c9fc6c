use Rattle.std.proofs.Common.{take}
use Rattle.show_moments.specs.Scenes.{seen, AreValues}
use Rattle.show_moments.proofs.scene.Scene.values.Given as goal

abbrev pub invariant-loop-k : goal.invariant-loop-k
invariant-loop-k l = AreValues (seen l.self) l.opened (take l.k l.values) l.all.items
