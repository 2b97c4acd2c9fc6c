use Rattle.std.proofs.Common.{take}
use Rattle.std.specs.List.{AllZip}
use Rattle.show_moments.specs.Scenes.{seen}
use Rattle.report_objects.specs.Scenes.{IsThreadObject}
use Rattle.report_objects.proofs.scenes.thread_objects.Given as goal

abbrev pub invariant-loop-k : goal.invariant-loop-k
invariant-loop-k l = AllZip (IsThreadObject (seen l.scene)) (take l.k l.told) l.threads.items
