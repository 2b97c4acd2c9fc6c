use Rattle.std.proofs.Common.{◌≡◌, ◌*◌, length, drop, replicate}
use Rattle.std.specs.List.{fold}
use Rattle.types.specs.declared.limits.TheConstants.{PAGE_SIZE}
use Rattle.validate_typing.specs.Image.{with_segment}
use Rattle.validate_module.proofs.image.opening_image.Given as goal

-- what is written so far, with the rest written over it, is the whole
abbrev pub invariant-loop-segment : goal.invariant-loop-segment
invariant-loop-segment l = record {
  whole : fold with_segment l.image.items (drop l.segment-index l.segments) ≡ fold with_segment (replicate (PAGE_SIZE * l.pages) 0) l.segments;
  long : length l.image.items ≡ PAGE_SIZE * l.pages;
}
