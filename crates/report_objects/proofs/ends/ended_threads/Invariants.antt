use Rattle.std.proofs.Common.{take}
use Rattle.show_moments.specs.Scenes.{seen}
use Rattle.report_objects.specs.Ends.{AreEndedThreads}
use Rattle.report_objects.proofs.ends.ended_threads.Given as goal

abbrev pub invariant-loop-k : goal.invariant-loop-k
invariant-loop-k l = AreEndedThreads (seen l.scene) (take l.k l.ends) l.threads.items
