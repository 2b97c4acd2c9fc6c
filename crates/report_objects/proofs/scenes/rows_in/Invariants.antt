use Rattle.std.proofs.Common.{take}
use Rattle.show_moments.specs.Scenes.{seen}
use Rattle.report_objects.specs.Scenes.{AreRows}
use Rattle.report_objects.proofs.scenes.rows_in.Given as goal

abbrev pub invariant-loop-k : goal.invariant-loop-k
invariant-loop-k l = AreRows (seen l.scene) (take l.k l.places) l.rows.items
