use Rattle.show_rows.proofs.Texts.{AreWritten}
use Rattle.show_moments.specs.Lines.{SaysOther}
use Rattle.show_moments.specs.Scenes.{seen}
use Rattle.show_moments.proofs.scene.Scene.write_others.Given as goal

abbrev pub invariant-loop-k : goal.invariant-loop-k
invariant-loop-k g l = AreWritten (SaysOther (seen l.self)) l.others l.k (g.W.Write.contents l.initial.out) (g.W.Write.contents l.out)
