-- The module of an instance is valid, and begins with the instance's memory.
use Rattle.std.proofs.Common.{◌≡◌, ℕ, ◌+◌, ◌*◌, ◌≤◌, ◌<◌, List, [], ◌∷◌, ◌++◌, length, replicate, Option, Some, None, refl, ap, ◌∙◌, arith}
use Rattle.std.specs.Prelude.{if◌then◌else◌}
use Rattle.std.proofs.lemmas.Bool.{le-leb}
use Rattle.std.proofs.lemmas.List.{append-nil, drop_all, length-replicate}
use Rattle.std.specs.Option.{option_map}
use Rattle.std.specs.List.{slice_get}
use Rattle.types.specs.declared.parts.Limits.{Limits}
use Rattle.types.specs.declared.parts.Parts.{Parts}
use Rattle.types.specs.declared.limits.TheConstants.{MOST_PAGES, PAGE_SIZE}
use Rattle.validate_typing.specs.Context.{memories_of}
use Rattle.validate_typing.specs.Image.{max_of, min_of, opening_image, opening_pages, pages_max_of}
use Rattle.validate_typing.specs.Validity.{IsValid}
use Rattle.report_memory.specs.Laid.{laid, unlaid, unlaid_in}
use Rattle.report_memory.specs.declared.laying.Unlaid.TheVariants.{Outside}
use Rattle.report_memory.proofs.Lying.{laid_valid}
use Rattle.host_instances.specs.Instances.{InstancesBeginWithTheirMemories, blank, laid_first, with_min}
use Rattle.host_instances.proofs.Blank.{first_memory, maximum_same, valid_blank}

-- with pages there is a memory
pub unlaid_none : (p count : ℕ) (l : Option Limits) → 0 < count → count ≡ PAGE_SIZE * p → p ≤ max_of MOST_PAGES l
    → unlaid_in (option_map (with_min p) l) 0 0 count ≡ None
unlaid_none p count None some whole low = absurd (omega arith)
unlaid_none p count (Some l) some whole low =
    ap (λ b. if b then None else Some (Outside (PAGE_SIZE * p))) (le-leb (0 + count) (PAGE_SIZE * p) (omega arith))

pages_of : (p : ℕ) (l : Option Limits) → p ≤ max_of MOST_PAGES l → min_of (option_map (with_min p) l) ≡ p
pages_of p None low = omega arith
pages_of p (Some l) low = refl

module _ (m : Parts) (p : ℕ) (low : p ≤ pages_max_of MOST_PAGES m) where
  pub blank_pages : opening_pages (blank m p) ≡ p
  blank_pages = ap min_of (first_memory m p) ∙ pages_of p (slice_get (memories_of m) 0) low

  pub can_be_laid : (bytes : List ℕ) → 0 < length bytes → length bytes ≡ PAGE_SIZE * p → unlaid (blank m p) 0 (length bytes) ≡ None
  can_be_laid bytes some whole =
      ap (λ (l : Option Limits). unlaid_in l 0 0 (length bytes)) (first_memory m p) ∙ unlaid_none p (length bytes) (slice_get (memories_of m) 0) some whole low

  image_laid : (bytes : List ℕ) → length bytes ≡ PAGE_SIZE * p → opening_image (laid (blank m p) 0 bytes) ≡ bytes
  image_laid bytes whole =
      let n = PAGE_SIZE * opening_pages (laid (blank m p) 0 bytes) in
      ap (λ (rest : List ℕ). bytes ++ rest) (drop_all (0 + length bytes) (replicate n 0) (omega (arith, length-replicate {A = ℕ} n 0, blank_pages, whole)))
      ∙ append-nil bytes

  valid_first : (bytes : List ℕ) → length bytes ≡ PAGE_SIZE * p → IsValid m → IsValid (laid_first (blank m p) bytes)
  valid_first [] whole v = valid_blank m p low v
  valid_first (b ∷ bytes) whole v = laid_valid (blank m p) 0 (b ∷ bytes) (valid_blank m p low v) (can_be_laid (b ∷ bytes) (omega arith) whole)

  image_first : (bytes : List ℕ) → length bytes ≡ PAGE_SIZE * p → opening_image (laid_first (blank m p) bytes) ≡ bytes
  image_first [] whole = ap (λ n. replicate n 0) (let none : PAGE_SIZE * opening_pages (blank m p) ≡ 0 = omega (arith, blank_pages, whole) in none)
  image_first (b ∷ bytes) whole = image_laid (b ∷ bytes) whole

  memories_first : (bytes : List ℕ) → memories_of (laid_first (blank m p) bytes) ≡ memories_of (blank m p)
  memories_first [] = refl
  memories_first (b ∷ bytes) = refl

pub begins : InstancesBeginWithTheirMemories
begins i valid can =
    let same = memories_first i.parts i.pages can.within i.bytes in record {
      valid = valid_first i.parts i.pages can.within i.bytes can.whole valid;
      image = image_first i.parts i.pages can.within i.bytes can.whole;
      pages = ap (λ (ms : List Limits). min_of (slice_get ms 0)) same ∙ blank_pages i.parts i.pages can.within;
      maximum = λ most. ap (λ (ms : List Limits). max_of most (slice_get ms 0)) same ∙ maximum_same i.parts i.pages most;
    }
