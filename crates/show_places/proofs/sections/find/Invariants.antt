use Rattle.std.proofs.Common.{◌≡◌, length}
use Rattle.show_places.proofs.Behind.{Passed}
use Rattle.show_places.proofs.sections.find.Given as goal

abbrev pub invariant-loop-section : goal.invariant-loop-section
invariant-loop-section l = record {
  bounds : l.reader.bounds ≡ l.fn.reader.bounds;
  passed : Passed (λ x. x.0 ≡ l.id) l.fn.reader.bounds l.fn.reader.rest.now l.reader.rest.now;
}

abbrev pub decreases-loop-section : goal.decreases-loop-section
decreases-loop-section l = length l.reader.rest.now
