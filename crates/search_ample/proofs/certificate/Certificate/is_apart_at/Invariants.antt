use Rattle.std.proofs.Common.{◌≡◌, ◌<◌, ℕ, false}
use Rattle.search_ample.specs.Certificate.{standing_at, part_at, ArePartsApart}
use Rattle.search_ample.proofs.certificate.Certificate.is_apart_at.Given as goal

abbrev pub invariant-loop-other : goal.invariant-loop-other
invariant-loop-other l = (u : ℕ) → u < l.other → (standing_at l.self l.state u).goes ≡ false → ArePartsApart l.self l.part (part_at l.self l.state u)
