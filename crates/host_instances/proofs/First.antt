-- The memory with which a module begins is one that it can have.
use Rattle.std.proofs.Common.{◌≡◌, ℕ, ◌*◌, ◌≤◌, List, [], ◌∷◌, length, replicate, Option, Some, None, IfSome, refl, ◌∙◌, arith}
use Rattle.std.proofs.lemmas.List.{length-replicate}
use Rattle.std.proofs.lemmas.List.Elements.{All-head, All-tail}
use Rattle.std.specs.List.{All, slice_get, fold}
use Rattle.types.specs.declared.parts.DataSegment.{DataSegment}
use Rattle.types.specs.declared.parts.Limits.{Limits}
use Rattle.types.specs.declared.parts.Parts.{Parts}
use Rattle.types.specs.declared.limits.TheConstants.{MOST_PAGES, PAGE_SIZE}
use Rattle.types.specs.Modules.{IsModule}
use Rattle.validate_typing.specs.Context.{memories_of}
use Rattle.validate_typing.specs.Image.{max_of, max_of_limits, min_of, offset_of, opening_image, opening_pages, with_segment}
use Rattle.validate_typing.specs.Validity.{IsValid, IsValidMemory}
use Rattle.validate_module.specs.Pages.{IsWithinPages}
use Rattle.validate_module.proofs.ImageLaws.{IsWithin, segments_within}
use Rattle.replay.proofs.Openable.{pages_within}
use Rattle.search_runs.proofs.Bytes.{length-splice}
use Rattle.host_instances.specs.Instances.{CanHave}

as_long : (bytes : List ℕ) (ds : List DataSegment) (pages : ℕ) → length bytes ≡ PAGE_SIZE * pages → All (IsWithin pages) ds
    → length (fold with_segment bytes ds) ≡ PAGE_SIZE * pages
as_long bytes [] pages long within = long
as_long bytes (d ∷ ds) pages long within =
    let head = All-head (IsWithin pages) d ds within in
    let same = length-splice bytes d.bytes (offset_of d.offset) (length d.bytes) refl (omega (arith, head, long)) in
    as_long (with_segment bytes d) ds pages (same ∙ long) (All-tail (IsWithin pages) d ds within)

ordered : (max : Option ℕ) (min : ℕ) → min ≤ MOST_PAGES → IfSome max (λ n. min ≤ n) → min ≤ max_of_limits MOST_PAGES max
ordered None min few is = few
ordered (Some n) min few is = is

under_max : (ms : List Limits) → All IsValidMemory ms → IsWithinPages MOST_PAGES (slice_get ms 0)
    → min_of (slice_get ms 0) ≤ max_of MOST_PAGES (slice_get ms 0)
under_max [] valid within = omega arith
under_max (l ∷ ms) valid within = ordered l.max l.min within.0 (All-head IsValidMemory l ms valid).0

pub first_can : (m : Parts) → IsModule m → IsValid m → CanHave m (opening_pages m) (opening_image m)
first_can m tested valid = record {
  whole = as_long (replicate (PAGE_SIZE * opening_pages m) 0) m.data (opening_pages m) (length-replicate (PAGE_SIZE * opening_pages m) 0) (segments_within m valid);
  within = under_max (memories_of m) valid.memories (pages_within m tested);
}
