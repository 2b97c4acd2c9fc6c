-- Instances: a module with a memory that stays between calls.
use Rattle.std.specs.Prelude.{ℕ, ◌≡◌, ◌+◌, ◌*◌, ◌≤◌, ◌/◌, ◌%◌, ◌==◌, ◌&&◌, nat_le, Bool, if◌then◌else◌}
use Rattle.std.specs.Prelude.{List, [], ◌∷◌, length, map, take, drop}
use Rattle.std.specs.List.{splice}
use Rattle.types.specs.declared.parts.Limits.{Limits}
use Rattle.types.specs.declared.parts.Import.{Import}
use Rattle.types.specs.declared.parts.ImportDesc.{ImportDesc}
use Rattle.types.specs.declared.parts.ImportDesc.TheVariants as imports
use Rattle.types.specs.declared.parts.Parts.{Parts}
use Rattle.types.specs.declared.limits.TheConstants.{MOST_PAGES, PAGE_SIZE}
use Rattle.validate_typing.specs.Image.{opening_image, opening_pages, pages_max_of}
use Rattle.validate_typing.specs.Validity.{IsValid}
use Rattle.report_memory.specs.Laid.{laid}
use Rattle.replay_text.specs.Text.{IsRecord}
use Rattle.replay_text.specs.declared.parts.RecordParts.{RecordParts}
use Rattle.replay.specs.Runs.{IsRunOf}
use Rattle.spawn_host.specs.declared.end.EndState.{EndState}

-- An instance: the parts of its module, and the pages and the bytes of its memory.
pub record Instanced : Type 0 where
  pub parts : Parts
  pub pages : ℕ
  pub bytes : List ℕ

-- At first the memory is the module's own.
abbrev pub first_of : Parts → Instanced
first_of m = record { parts = m; pages = opening_pages m; bytes = opening_image m }

-- Behind a run it is what the run left.
abbrev pub left_by : EndState → Instanced → Instanced
left_by end i = record i { pages = end.pages; bytes = end.bytes.items }

-- A memory that the module can have: its bytes are its pages, and no more pages than its maximum says.
pub record CanHave (m : Parts) (pages : ℕ) (bytes : List ℕ) : Type 0 where
  pub whole : length bytes ≡ PAGE_SIZE * pages
  pub within : pages ≤ pages_max_of MOST_PAGES m

-- The memory, imported or not, has so many pages at first.
abbrev pub with_min : ℕ → Limits → Limits
with_min pages l = record l { min = pages }

abbrev pub desc_with : ℕ → ImportDesc → ImportDesc
desc_with pages (imports.Func index) = imports.Func index
desc_with pages (imports.Table l) = imports.Table l
desc_with pages (imports.Memory l) = imports.Memory (with_min pages l)
desc_with pages (imports.Global g) = imports.Global g

abbrev pub import_with : ℕ → Import → Import
import_with pages i = record i { desc = desc_with pages i.desc }

-- The module with a memory of so many pages of zeros: without its data segments.
abbrev pub blank : Parts → ℕ → Parts
blank m pages = record m {
  imports = map (import_with pages) m.imports;
  memories = map (with_min pages) m.memories;
  «data» = [];
}

-- Bytes, if there are some, are laid over the memory from 0 on.
abbrev pub laid_first : Parts → List ℕ → Parts
laid_first m [] = m
laid_first m (b ∷ bytes) = laid m 0 (b ∷ bytes)

-- The module of an instance: it begins with the instance's memory.
abbrev pub module_of : Instanced → Parts
module_of i = laid_first (blank i.parts i.pages) i.bytes

-- So many bytes from an address on lie within the memory.
abbrev pub lies_within : Instanced → ℕ → ℕ → Bool
lies_within i addr count = nat_le (addr + count) (length i.bytes)

-- What is read of it from an address on: as many bytes as are wanted, if all lie within the memory.
abbrev pub read_at : Instanced → ℕ → List ℕ → List ℕ
read_at i addr wanted = if lies_within i addr (length wanted) then take (length wanted) (drop addr i.bytes) else wanted

-- Bytes are written over it from an address on, if all lie within the memory.
abbrev pub written_at : Instanced → ℕ → List ℕ → Instanced
written_at i addr bytes =
    if lies_within i addr (length bytes)
    then record i { bytes = splice i.bytes addr (addr + length bytes) bytes }
    else i

-- So many bytes are whole pages, as many as the module's memory can have, and no fewer than it has at first.
abbrev pub can_be_set : Parts → ℕ → Bool
can_be_set m count =
    (count % PAGE_SIZE == 0) && nat_le (opening_pages m) (count / PAGE_SIZE)
    && nat_le (count / PAGE_SIZE) (pages_max_of MOST_PAGES m)

-- They are the memory then.
abbrev pub set_to : Instanced → List ℕ → Instanced
set_to i bytes =
    if can_be_set i.parts (length bytes) then record i { pages = length bytes / PAGE_SIZE; bytes = bytes } else i

-- The module of an instance is valid; and it begins with the instance's memory, which may have as many pages as its own
-- module says.
pub record BeginsWithItsMemory (i : Instanced) : Type 0 where
  pub valid : IsValid (module_of i)
  pub image : opening_image (module_of i) ≡ i.bytes
  pub pages : opening_pages (module_of i) ≡ i.pages
  pub maximum : (most : ℕ) → pages_max_of most (module_of i) ≡ pages_max_of most i.parts

abbrev pub InstancesBeginWithTheirMemories : Type 0
InstancesBeginWithTheirMemories =
    (i : Instanced) → IsValid i.parts → CanHave i.parts i.pages i.bytes → BeginsWithItsMemory i

-- A run that begins with an instance's memory leaves one that the module can have.
abbrev pub RunsLeaveMemories : Type 0
RunsLeaveMemories =
    (i : Instanced) → IsValid i.parts → CanHave i.parts i.pages i.bytes → (r : RecordParts) → IsRecord r → (end : EndState)
    → IsRunOf (module_of i) r end → CanHave i.parts end.pages end.bytes.items
