-- The lanes of a word: some of its 8 bytes, that follow one another.
use Rattle.std.specs.Prelude.{ℕ, ◌≡◌, ◌+◌, ◌*◌, ◌%◌, ◌^◌, ◌<◌, ◌≤◌, ◌⊎◌, take, drop}
use Rattle.std.specs.List.{splice}
use Rattle.shared_memory.specs.Numbers.{le_number, le_bytes}

-- The number of the bytes at an address, so many, in the word that holds them.
unfoldable pub lane_of : ℕ → ℕ → ℕ → ℕ
lane_of word addr width = le_number (take width (drop (addr % 8) (le_bytes 8 word)))

-- A word is another one with the bytes at an address, so many, replaced by those of a value.
unfoldable pub IsWithLane : ℕ → ℕ → ℕ → ℕ → ℕ → Type 0
IsWithLane word addr width value written =
    le_bytes 8 written ≡ splice (le_bytes 8 word) (addr % 8) (addr % 8 + width) (le_bytes width value)

-- A lane that was written reads as the value written, where the value fits it.
abbrev pub LaneOfWithLane : Type 0
LaneOfWithLane =
    (word addr width value written : ℕ) → addr % 8 + width ≤ 8 → value < 2 ^ (8 * width)
    → IsWithLane word addr width value written → lane_of written addr width ≡ value

-- A lane that ends before the one written begins, or begins at or after its end, reads as before.
abbrev pub LaneElsewhere : Type 0
LaneElsewhere =
    (word addr width value written other other_width : ℕ) → addr % 8 + width ≤ 8 → other % 8 + other_width ≤ 8
    → (other % 8 + other_width ≤ addr % 8) ⊎ (addr % 8 + width ≤ other % 8)
    → IsWithLane word addr width value written → lane_of written other other_width ≡ lane_of word other other_width
