use Rattle.std.proofs.Common.{◌≡◌, length, drop, replicate, None}
use Rattle.std.specs.List.{fold}
use Rattle.interp_machine.specs.Program.{with_elements}
use Rattle.interp.proofs.opening.opening_table.Given as goal

-- what is written so far, with the rest written over it, is the whole
abbrev pub invariant-loop-segment : goal.invariant-loop-segment
invariant-loop-segment l = record {
  whole : fold with_elements l.places.items (drop l.segment-index l.fn.parts.elements) ≡ fold with_elements (replicate l.size None) l.fn.parts.elements;
  long : length l.places.items ≡ l.size;
}
