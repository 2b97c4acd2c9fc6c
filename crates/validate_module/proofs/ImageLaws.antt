-- The data segments of a valid module lie within its opening pages.
use Rattle.std.proofs.Common.{◌≡◌, ℕ, ◌+◌, ◌*◌, ◌≤◌, length, Some, sym, ap, subst, arith}
use Rattle.std.specs.List.{All, slice_get}
use Rattle.std.proofs.lemmas.List.Elements.{All-weaker}
use Rattle.std.proofs.lemmas.Option.{slice_get_within}
use Rattle.types.specs.declared.parts.DataSegment.{DataSegment}
use Rattle.types.specs.declared.parts.Parts.{Parts}
use Rattle.types.specs.declared.limits.TheConstants.{PAGE_SIZE}
use Rattle.validate_typing.specs.Context.{memories_of}
use Rattle.validate_typing.specs.Image.{offset_of, min_of, opening_pages}
use Rattle.validate_typing.specs.Validity.{IsValid, IsValidData}

abbrev pub IsWithin : ℕ → DataSegment → Type 0
IsWithin pages d = offset_of d.offset + length d.bytes ≤ PAGE_SIZE * pages

pub segments_within : (m : Parts) → IsValid m → All (IsWithin (opening_pages m)) m.data
segments_within m v = All-weaker (IsValidData m) (IsWithin (opening_pages m)) each m.data v.data_segments
  where
    each : (d : DataSegment) → IsValidData m d → IsWithin (opening_pages m) d
    each d h =
        let l = h.0 in
        let first : d.memory ≡ 0 = let a = slice_get_within (memories_of m) d.memory l h.2 in let b = v.one_memory in omega arith in
        let there : slice_get (memories_of m) 0 ≡ Some l = subst (λ k. slice_get (memories_of m) k ≡ Some l) first h.2 in
        let pages : opening_pages m ≡ l.min = ap min_of there in
        let offset : offset_of d.offset ≡ h.1 = ap offset_of h.3 in
        let bound = h.4 in
        subst (λ n. offset_of d.offset + length d.bytes ≤ PAGE_SIZE * n) (sym pages) (subst (λ n. n + length d.bytes ≤ PAGE_SIZE * l.min) (sym offset) bound)
