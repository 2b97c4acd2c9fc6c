-- When bytes are refused.
use Rattle.std.specs.Prelude.{◌≡◌, ℕ, List}
use Rattle.dwarf_reader.specs.declared.cursor.Cursor.{Cursor}
use Rattle.dwarf_reader.specs.declared.fault.DebugFault.{DebugFault}
use Rattle.dwarf_reader.specs.declared.fault.DebugFault.TheVariants.{Unreadable}

-- Nothing such stands at the front of the bytes.
abbrev pub Misses : (List ℕ → ℕ → List ℕ → Type 0) → List ℕ → Type 0
Misses P bytes = (n : ℕ) (rest : List ℕ) → P bytes n rest → ⊥

-- The fault is one of the bytes, of which nothing was taken.
abbrev pub IsLeft : Cursor → Cursor → DebugFault → Type 0
IsLeft old new fault = (fault ≡ Unreadable) × (new.rest.now ≡ old.rest.now)
