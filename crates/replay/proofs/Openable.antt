-- The opening memory of a valid module that keeps the limits can be opened, and no entry changes a memory's maximum.
use Rattle.std.proofs.Common.{◌≡◌, ℕ, ◌+◌, ◌*◌, ◌≤◌, Bool, true, false, cond, List, [], ◌∷◌, ◌++◌, ◌%◌, length, take, drop, replicate, Option, Some, None}
use Rattle.std.proofs.Common.{refl, ◌∙◌, arith, length-append}
use Rattle.std.specs.Prelude.{nat_le, IfSome}
use Rattle.std.specs.List.{All, slice_get, fold, flat_map}
use Rattle.std.proofs.lemmas.Bool.{le-leb}
use Rattle.std.proofs.lemmas.List.{length-take-le, length-drop, length-replicate}
use Rattle.std.proofs.lemmas.List.Elements.{All-append, All-head, All-tail, All-nil, All-cons}
use Rattle.types.specs.declared.event.Entry.{Entry}
use Rattle.types.specs.declared.event.Event.{Event}
use Rattle.types.specs.declared.event.Event.TheVariants.{Size, Grow, Load, Store, Rmw, Cmpxchg, Ask, Told}
use Rattle.types.specs.declared.parts.Limits.{Limits}
use Rattle.types.specs.declared.parts.Import.{Import}
use Rattle.types.specs.declared.parts.ImportDesc.{ImportDesc}
use Rattle.types.specs.declared.parts.ImportDesc.TheVariants as imports
use Rattle.types.specs.declared.parts.DataSegment.{DataSegment}
use Rattle.types.specs.declared.parts.Parts.{Parts}
use Rattle.types.specs.declared.limits.TheConstants.{PAGE_SIZE, MOST_PAGES}
use Rattle.types.specs.Modules.{IsModule}
use Rattle.types.specs.Within.{IsMemoryWithin, IsDescWithin}
use Rattle.validate_typing.specs.Context.{memory_of, memories_of}
use Rattle.validate_typing.specs.Image.{min_of, max_of, max_of_limits, opening_pages, pages_max_of, offset_of, with_segment, opening_image}
use Rattle.validate_module.specs.Pages.{IsWithinPages, HasPagesWithin}
use Rattle.validate_typing.specs.Validity.{IsValid, IsValidMemory}
use Rattle.validate_module.proofs.ImageLaws.{IsWithin, segments_within}
use Rattle.shared_memory.specs.Memory.{Memory, can_grow, state_after}
use Rattle.shared_memory.specs.History.{memory_after}
use Rattle.shared_memory_sequential.specs.Opening.{can_open}

one_within : (d : ImportDesc) → IsDescWithin d → All IsMemoryWithin (memory_of d)
one_within (imports.Func f) h = All-nil IsMemoryWithin
one_within (imports.Table l) h = All-nil IsMemoryWithin
one_within (imports.Memory l) h = All-cons IsMemoryWithin l [] h (All-nil IsMemoryWithin)
one_within (imports.Global g) h = All-nil IsMemoryWithin

imported_within : (is : List Import) → All (λ (i : Import). IsDescWithin i.desc) is
    → All IsMemoryWithin (flat_map (λ (i : Import). memory_of i.desc) is)
imported_within [] all = All-nil IsMemoryWithin
imported_within (i ∷ is) all =
    All-append IsMemoryWithin (memory_of i.desc) (flat_map (λ (i : Import). memory_of i.desc) is)
    (one_within i.desc (All-head (λ (i : Import). IsDescWithin i.desc) i is all))
    (imported_within is (All-tail (λ (i : Import). IsDescWithin i.desc) i is all))

limits_fit : (min : ℕ) (max : Option ℕ) → min ≤ MOST_PAGES → IfSome max (λ n. n ≤ MOST_PAGES) → IfSome max (λ n. min ≤ n)
    → (min ≤ max_of_limits MOST_PAGES max) × (max_of_limits MOST_PAGES max ≤ MOST_PAGES)
limits_fit min None small within ordered = (small, omega arith)
limits_fit min (Some n) small within ordered = (ordered, within)

-- the first memory begins with no more pages than it may have, and may have no more than any
first_fits : (ms : List Limits) → All IsMemoryWithin ms → All IsValidMemory ms
    → (min_of (slice_get ms 0) ≤ max_of MOST_PAGES (slice_get ms 0)) × (max_of MOST_PAGES (slice_get ms 0) ≤ MOST_PAGES)
first_fits [] within valid = (omega arith, omega arith)
first_fits (l ∷ ms) within valid =
    let w = All-head IsMemoryWithin l ms within in
    let v = All-head IsValidMemory l ms valid in
    limits_fit l.min l.max w.0 w.1 v.0

length-with_segment : (bytes : List ℕ) (d : DataSegment) → offset_of d.offset + length d.bytes ≤ length bytes
    → length (with_segment bytes d) ≡ length bytes
length-with_segment bytes d within =
    let at = offset_of d.offset in
    let end = at + length d.bytes in
    let front = length-take-le at bytes (omega arith) in
    let back = length-drop end bytes in
    let inner = length-append d.bytes (drop end bytes) in
    let outer = length-append (take at bytes) (d.bytes ++ drop end bytes) in
    omega (arith, front, back, inner, outer)

length-image : (bytes : List ℕ) (ds : List DataSegment) (pages : ℕ) → length bytes ≡ PAGE_SIZE * pages → All (IsWithin pages) ds
    → length (fold with_segment bytes ds) ≡ PAGE_SIZE * pages
length-image bytes [] pages long all = long
length-image bytes (d ∷ ds) pages long all =
    let within = All-head (IsWithin pages) d ds all in
    let same = length-with_segment bytes d (omega (arith, long, within)) in
    length-image (with_segment bytes d) ds pages (same ∙ long) (All-tail (IsWithin pages) d ds all)

opens : (image : List ℕ) (max pages : ℕ) → length image ≡ PAGE_SIZE * pages → pages ≤ max → max ≤ MOST_PAGES → can_open image max ≡ true
opens image max pages long within small =
    let a = le-leb max MOST_PAGES small in
    let b = le-leb (length image) (PAGE_SIZE * max) (omega (arith, long, within)) in
    let whole : length image % PAGE_SIZE ≡ 0 = omega (arith, long) in
    grind (arith, a, b, whole)

all_within : (m : Parts) → IsModule m → All IsMemoryWithin (memories_of m)
all_within m tested =
    All-append IsMemoryWithin (flat_map (λ (i : Import). memory_of i.desc) m.imports) m.memories
    (imported_within m.imports tested.limits.each_import) tested.limits.each_memory

first_within : (ms : List Limits) → All IsMemoryWithin ms → IsWithinPages MOST_PAGES (slice_get ms 0)
first_within [] within = tt
first_within (l ∷ ms) within = All-head IsMemoryWithin l ms within

-- a module's memory has no more pages than any may have
pub pages_within : (m : Parts) → IsModule m → HasPagesWithin MOST_PAGES m
pages_within m tested = first_within (memories_of m) (all_within m tested)

-- the opening memory of a valid module can be opened
pub module_opens : (m : Parts) → IsModule m → IsValid m → can_open (opening_image m) (pages_max_of MOST_PAGES m) ≡ true
module_opens m tested valid =
    let within = all_within m tested in
    let fits = first_fits (memories_of m) within valid.memories in
    let zeros = replicate (PAGE_SIZE * opening_pages m) 0 in
    let long = length-image zeros m.data (opening_pages m) (length-replicate (PAGE_SIZE * opening_pages m) 0) (segments_within m valid) in
    opens (opening_image m) (pages_max_of MOST_PAGES m) (opening_pages m) long fits.0 fits.1

same_max : (m w : Memory) (b : Bool) → w.max ≡ m.max → Memory.max (cond b w m) ≡ m.max
same_max m w true same = same
same_max m w false same = refl

max_kept_by : (m : Memory) (event : Event) → Memory.max (state_after m event) ≡ m.max
max_kept_by m Size = refl
max_kept_by m (Grow more) = same_max m _ (can_grow m more) refl
max_kept_by m (Load addr width reach) = refl
max_kept_by m (Store addr width reach value) = same_max m _ (nat_le reach (length m.bytes)) refl
max_kept_by m (Rmw op addr width value) = same_max m _ (nat_le (addr + width) (length m.bytes)) refl
max_kept_by m (Cmpxchg addr width expected replacement) =
    same_max m _ (nat_le (addr + width) (length m.bytes)) (same_max m _ _ refl)
max_kept_by m (Ask question) = refl
max_kept_by m (Told answer) = refl

-- no entry changes the maximum
pub max_kept : (m : Memory) (history : List Entry) → Memory.max (memory_after m history) ≡ m.max
max_kept m [] = refl
max_kept m (e ∷ history) = max_kept (state_after m e.event) history ∙ max_kept_by m e.event
