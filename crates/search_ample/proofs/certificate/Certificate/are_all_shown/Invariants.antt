use Rattle.std.proofs.Common.{◌<◌, ℕ}
use Rattle.search_ample.specs.Certificate.{AreShownAt}
use Rattle.search_ample.proofs.certificate.Certificate.are_all_shown.Given as goal

abbrev pub invariant-loop-state : goal.invariant-loop-state
invariant-loop-state l = (i : ℕ) → i < l.state → AreShownAt l.self l.moves i
