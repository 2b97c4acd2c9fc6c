use Rattle.std.proofs.Common.{◌<◌, ℕ}
use Rattle.search_ample.specs.Certificate.{part_at, may_of, Includes}
use Rattle.search_ample.proofs.certificate.Certificate.keeps_footprints.Given as goal

abbrev pub invariant-loop-thread : goal.invariant-loop-thread
invariant-loop-thread l = (n : ℕ) → n < l.thread → Includes (may_of l.self (part_at l.self l.m.from n)) (may_of l.self (part_at l.self l.m.next n))
