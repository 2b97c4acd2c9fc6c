-- Which locals are live at each place of flat code: those that may be read there before they are written.
use Rattle.std.specs.Prelude.{◌≡◌, ◌≢◌, ℕ, ◌+◌, Bool, true, false, List, [], Option, Some, None, ◌⊎◌, unwrap_or}
use Rattle.std.specs.Prelude.{slice_index_or}
use Rattle.std.specs.List.{slice_get, Contains}
use Rattle.types.specs.declared.instr.PlainInstr.TheVariants as plain
use Rattle.types.specs.declared.instr.Instr.{Instr}
use Rattle.types.specs.declared.instr.Instr.TheVariants as instrs
use Rattle.types.specs.declared.parts.Body.{Body}
use Rattle.validate_typing.specs.declared.target.Target.{Target}
use Rattle.validate_typing.specs.Placed.{goes_on}
use Rattle.validate_typing.specs.Tabled.{WithTables}

-- A row has a mark for each local: whether it is live. What it has no mark for is live.
abbrev pub is_live_by : List Bool → ℕ → Bool
is_live_by row local = slice_index_or row local true

abbrev pub IsLive : List Bool → ℕ → Type 0
IsLive row local = is_live_by row local ≡ true

-- The local that an instruction reads, and the one that it writes.
abbrev pub read_by : Instr → Option ℕ
read_by (instrs.Plain (plain.LocalGet x)) = Some x
read_by i = None

abbrev pub written_by : Instr → Option ℕ
written_by (instrs.Plain (plain.LocalSet x)) = Some x
written_by (instrs.Plain (plain.LocalTee x)) = Some x
written_by i = None

-- Whether an instruction may go to the one behind it. An `else` is met at the end of the first arm.
abbrev pub goes_next : Instr → Bool
goes_next (instrs.Plain op) = goes_on op true
goes_next instrs.Else = false
goes_next i = true

-- An instruction may go from its place to that one: it is the next place, or one of its targets leads there.
abbrev pub GoesTo : Instr → List Target → ℕ → ℕ → Type 0
GoesTo i targets place next =
    ((goes_next i ≡ true) × (next ≡ place + 1)) ⊎ ((t : Target) × Contains targets t × (t.to ≡ next))

-- What is live behind an instruction is live before it, but for what it writes.
abbrev pub Covers : List Bool → List Bool → Option ℕ → Type 0
Covers row behind written = (local : ℕ) → IsLive behind local → written ≢ Some local → IsLive row local

-- The targets of the instruction at a place, and the marks of a place, in a list of rows.
abbrev pub row_at : {X : Type 0} → List (List X) → ℕ → List X
row_at rows place = unwrap_or (slice_get rows place) []

-- Marks are sound for flat code with its rows of targets: live before each instruction is what it reads, and what is
-- live at each place where it may go, but for what it writes.
pub record IsSound (code : List Instr) (rows : List (List Target)) (live : List (List Bool)) : Type 0 where
  pub reads : (place : ℕ) (i : Instr) (local : ℕ) → slice_get code place ≡ Some i → read_by i ≡ Some local →
      IsLive (row_at live place) local
  pub flows : (place : ℕ) (i : Instr) (next : ℕ) → slice_get code place ≡ Some i →
      GoesTo i (row_at rows place) place next → Covers (row_at live place) (row_at live next) (written_by i)

-- The same of each body of a module with its tables of branches. A body without marks has all live.
abbrev pub AreSound : WithTables → List (List (List Bool)) → Type 0
AreSound w tables = (own : ℕ) (body : Body) (rows : List (List Target)) → slice_get w.parts.bodies own ≡ Some body →
    slice_get w.tables own ≡ Some rows → IsSound body.code rows (row_at tables own)

-- Whether a local is live at a place of a function's body; functions of the module itself, from 0.
abbrev pub is_live_at : List (List (List Bool)) → ℕ → ℕ → ℕ → Bool
is_live_at tables own place local = is_live_by (row_at (row_at tables own) place) local
