use Rattle.show_rows.proofs.Texts.{AreWritten}
use Rattle.show_moments.specs.Lines.{SaysThread}
use Rattle.show_moments.specs.Scenes.{seen}
use Rattle.show_moments.proofs.scene.Scene.write_threads.Given as goal

abbrev pub invariant-loop-k : goal.invariant-loop-k
invariant-loop-k g l = AreWritten (SaysThread (seen l.self)) l.threads l.k (g.W.Write.contents l.initial.out) (g.W.Write.contents l.out)
