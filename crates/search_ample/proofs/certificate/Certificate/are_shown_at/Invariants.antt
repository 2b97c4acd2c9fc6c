use Rattle.std.proofs.Common.{◌<◌, ℕ}
use Rattle.search_ample.specs.Certificate.{IsShownAt}
use Rattle.search_ample.proofs.certificate.Certificate.are_shown_at.Given as goal

abbrev pub invariant-loop-thread : goal.invariant-loop-thread
invariant-loop-thread l = (n : ℕ) → n < l.thread → IsShownAt l.self l.moves l.state n
