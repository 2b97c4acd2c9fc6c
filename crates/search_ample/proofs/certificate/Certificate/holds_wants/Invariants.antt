use Rattle.std.proofs.Common.{◌<◌, ℕ, All}
use Rattle.search_graph.specs.Graph.{IsMarked}
use Rattle.search_ample.specs.Certificate.{may_of, wants_of}
use Rattle.search_ample.proofs.certificate.Certificate.holds_wants.Given as goal

abbrev pub invariant-loop-part : goal.invariant-loop-part
invariant-loop-part l = (part : ℕ) → part < l.part → All (IsMarked (may_of l.self part)) (wants_of l.self part)
