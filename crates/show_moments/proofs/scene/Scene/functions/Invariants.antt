use Rattle.show_moments.specs.Scenes.{seen, depth}
use Rattle.show_moments.proofs.Scenes.{Ends}
use Rattle.show_moments.proofs.scene.Scene.functions.Given as goal

abbrev pub invariant-loop-number : goal.invariant-loop-number
invariant-loop-number l = Ends (seen l.self) l.standing (depth l.standing) l.number l.functions.items
