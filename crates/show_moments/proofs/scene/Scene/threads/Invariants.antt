use Rattle.show_moments.specs.Scenes.{seen, AreThreads}
use Rattle.show_moments.proofs.scene.Scene.threads.Given as goal

abbrev pub invariant-loop-thread : goal.invariant-loop-thread
invariant-loop-thread l = AreThreads (seen l.self) l.thread l.threads.items
