-- The handles that a host keeps.
use base.Fml.{Fml, ftrue}
use mir.Syntax.{Ty}
use denote.RattleType.{RattleType}
use denote.RawPtr.{Ptr}
use Rattle.std.specs.Prelude.{◌≡◌, ◌==◌, ℕ, Option, None, Some, is_none}
use Rattle.std.specs.Box.Ownership.{box_owns}
use Rattle.std.specs.Global.{Global}
use Rattle.std_heap.specs.contracts.GlobalAllocator.TheImpl.{ghosts}

-- The right to free a block of the heap, which is the same by every allocator of it.
abbrev pub right_to_free : Ty → Ptr → Fml
right_to_free = ghosts.dealloc_token (record { memory = record { seal = tt } })

-- What the place of a value owns: nothing, or the value behind its pointer and the right to free that.
abbrev pub slot_owns : (R : RattleType) → Ptr → Option R.Denot → Fml
slot_owns R at None = ftrue
slot_owns R at (Some v) = box_owns right_to_free R at v

-- A handle is closed, its number 0, exactly where it holds nothing.
abbrev pub IsTied : {X : Type 0} → ℕ → Option X → Type 0
IsTied is_open held = (is_open == 0) ≡ is_none held
