use Rattle.std.proofs.Common.{◌≡◌, length, drop}
use Rattle.binary_wire.specs.Faults.{input}
use Rattle.show_places.specs.Sections.{IsCustom}
use Rattle.show_places.proofs.Behind.{Passed}
use Rattle.show_places.proofs.sections.custom_section.Given as goal

abbrev pub invariant-loop-section : goal.invariant-loop-section
invariant-loop-section l = record {
  bounds : l.reader.bounds ≡ input l.bytes;
  passed : Passed (IsCustom l.name) (input l.bytes) (drop 8 l.bytes) l.reader.rest.now;
}

abbrev pub decreases-loop-section : goal.decreases-loop-section
decreases-loop-section l = length l.reader.rest.now
