-- How many pages the memory of a module may have, and what is written over them.
use Rattle.std.specs.Prelude.{ℕ, ◌*◌, ◌≤◌, List, replicate, fold, Option, Some, None, IfSome}
use Rattle.std.specs.List.{slice_get}
use Rattle.types.specs.declared.parts.DataSegment.{DataSegment}
use Rattle.types.specs.declared.limits.TheConstants.{PAGE_SIZE}
use Rattle.types.specs.declared.parts.Limits.{Limits}
use Rattle.types.specs.declared.parts.Parts.{Parts}
use Rattle.validate_typing.specs.Context.{memories_of}
use Rattle.validate_typing.specs.Image.{with_segment}

-- It has at most so many at first, and at most so many where a maximum is given.
abbrev pub IsWithinPages : ℕ → Option Limits → Type 0
IsWithinPages most None = Unit {0}
IsWithinPages most (Some l) = (l.min ≤ most) × IfSome l.max (λ n. n ≤ most)

abbrev pub HasPagesWithin : ℕ → Parts → Type 0
HasPagesWithin most m = IsWithinPages most (slice_get (memories_of m) 0)

-- So many pages of zeros, with these segments written over them in order.
abbrev pub image_of : ℕ → List DataSegment → List ℕ
image_of pages segments = fold with_segment (replicate (PAGE_SIZE * pages) 0) segments
