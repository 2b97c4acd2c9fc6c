-- The section in which a module says how many entries of a run it takes where its program alone would make one: those of a
-- library that simulates something are many.
use Rattle.std.specs.Prelude.{ℕ, ◌≡◌, ◌⊎◌, max, codes, List, Option, Some, None, Result, Ok, Err}
use Rattle.binary_wire.specs.Faults.{input}
use Rattle.binary_wire.specs.declared.fault.Refusal.{Refusal}
use Rattle.binary_wire.specs.Reading.{u32_at}
use Rattle.show_places.specs.Sections.{HasCustom, HasNoCustom}
use Rattle.show_said.specs.Sections.{behind_version}

abbrev pub factor_read : Result (ℕ × List ℕ) Refusal → ℕ
factor_read (Ok found) = max 1 found.0
factor_read (Err refusal) = 1

abbrev pub factor_behind : Option (List ℕ) → ℕ
factor_behind (Some bytes) = factor_read (u32_at (input bytes) bytes)
factor_behind None = 1

-- Behind a first byte of 1 a number, of which 0 counts as 1; and 1 where it can't be read.
abbrev pub factor_in : List ℕ → ℕ
factor_in contents = factor_behind (behind_version contents)

-- That of the module's first custom section `wathread.entries`, and 1 where it has none.
abbrev pub IsEntryFactor : List ℕ → ℕ → Type 0
IsEntryFactor bytes factor =
    ((contents : List ℕ) × HasCustom bytes (codes "wathread.entries") contents × (factor ≡ factor_in contents))
    ⊎ ((factor ≡ 1) × HasNoCustom bytes (codes "wathread.entries"))
