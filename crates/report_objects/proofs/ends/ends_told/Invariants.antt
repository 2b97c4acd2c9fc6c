use Rattle.std.proofs.Common.{take}
use Rattle.std.specs.List.{AllZip, enumerate_from}
use Rattle.show_moments.specs.Scenes.{seen}
use Rattle.report_objects.specs.Ends.{IsEnd}
use Rattle.report_objects.proofs.ends.ends_told.Given as goal

abbrev pub invariant-loop-thread : goal.invariant-loop-thread
invariant-loop-thread l = AllZip (IsEnd (seen l.scene)) (take l.thread (enumerate_from 0 l.reports)) l.ends.items
