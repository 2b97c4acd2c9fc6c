-- The stack of a search that goes depth first: the places of the states that it met and hasn't gone on from.
use Rattle.std.specs.Prelude.{◌≡◌, ◌+◌, ◌-◌, ◌<◌, ◌≤◌, ◌^◌, ◌⊎◌, ℕ, Some, List, length, Contains}
use Rattle.std.specs.List.{slice_get}

-- Each place is below those above it on the stack, and below `end`.
pub record IsStack (stack : List ℕ) (end : ℕ) : Type 0 where
  pub within : (place : ℕ) → Contains stack place → place < end
  pub ascends : (low high place above : ℕ) → low < high → slice_get stack low ≡ Some place → slice_get stack high ≡ Some above
      → place < above

-- The places from `from` to `end` were put on it, and no others.
pub record Opens (before : List ℕ) (from end : ℕ) (after : List ℕ) : Type 0 where
  pub kept : (place : ℕ) → Contains before place → Contains after place
  pub new : (place : ℕ) → from ≤ place → place < end → Contains after place
  pub only : (place : ℕ) → Contains after place → Contains before place ⊎ ((from ≤ place) × (place < end))
  pub stack : IsStack before from → IsStack after end

-- It is so where places fit 32 bits, and as many are on it in any case.
pub record IsOpened (before : List ℕ) (from end : ℕ) (after : List ℕ) : Type 0 where
  pub len : length after ≡ length before + (end - from)
  pub opens : end ≤ 2 ^ 32 → Opens before from end after
