use Rattle.std.proofs.Common.{take}
use Rattle.std.specs.List.{AllZip}
use Rattle.report_looks.specs.Addresses.{AreAddresses}
use Rattle.report_looks.proofs.wanted.spans_of.Given as goal

abbrev pub invariant-loop-k : goal.invariant-loop-k
invariant-loop-k l = AllZip (AreAddresses l.map) (take l.k l.all) l.spans.items
