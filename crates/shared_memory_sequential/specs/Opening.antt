-- Which memories can be opened, and what every memory keeps to.
use Rattle.std.specs.Prelude.{ℕ, ◌≡◌, ◌*◌, ◌%◌, ◌≤◌, ◌==◌, ◌&&◌, Bool, nat_le, List, length}
use Rattle.types.specs.declared.limits.TheConstants.{PAGE_SIZE, MOST_PAGES}
use Rattle.shared_memory.specs.Memory.{Memory}

-- An image is whole pages of 65,536 bytes under a maximum of at most 256 pages.
abbrev pub can_open : List ℕ → ℕ → Bool
can_open image max = nat_le max MOST_PAGES && nat_le (length image) (PAGE_SIZE * max) && (length image % PAGE_SIZE == 0)

-- The sizes of every open memory.
pub record IsSized (m : Memory) : Type 0 where
  pub whole : length m.bytes % PAGE_SIZE ≡ 0
  pub within : length m.bytes ≤ PAGE_SIZE * m.max
  pub small : m.max ≤ MOST_PAGES
