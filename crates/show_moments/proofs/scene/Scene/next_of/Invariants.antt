use Rattle.show_moments.specs.Scenes.{seen}
use Rattle.show_moments.proofs.Nexts.{HasNoneUpTo}
use Rattle.show_moments.proofs.scene.Scene.next_of.Given as goal

abbrev pub invariant-loop-place : goal.invariant-loop-place
invariant-loop-place l = HasNoneUpTo (seen l.self) l.thread l.place
