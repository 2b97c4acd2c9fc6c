use Rattle.std.proofs.Common.{take}
use Rattle.std.specs.Io.KnownBytes.{Appends}
use Rattle.report_jobs.specs.Prints.{said_lines}
use Rattle.report_jobs.proofs.saying.write_said.Given as goal

abbrev pub invariant-loop-said : goal.invariant-loop-said
invariant-loop-said g l = Appends (g.W.Write.contents l.initial.out) (g.W.Write.contents l.out) (said_lines (take l.said-index l.all))
