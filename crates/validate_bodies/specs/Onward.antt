-- One instruction of the pass, onward: where typed code is still to come before it, the rest of that is still to come
-- after it. So what is refused is no beginning of typed code.
use Rattle.std.specs.Prelude.{◌≡◌, ℕ, List, [], ◌∷◌, ◌++◌, map, reverse, Option, Some, None}
use Rattle.std.specs.Bool.{⊤}
use Rattle.types.specs.declared.value.ValType.{ValType}
use Rattle.types.specs.declared.instr.Instr.{Instr}
use Rattle.types.specs.Nesting.{Code}
use Rattle.validate_typing.specs.declared.fault.Fault.{Fault}
use Rattle.validate_typing.specs.Context.{Context}
use Rattle.validate_typing.specs.Typing.{results_of, HasType}
use Rattle.validate_typing.specs.Placed.{FlatLabel, types_of}
use Rattle.validate_typing.specs.Nested.{Level, before}
use Rattle.validate_instructions.specs.declared.block.Arm.{Arm}
use Rattle.validate_instructions.specs.declared.block.Arm.TheVariants.{Whole, Lone, First}
use Rattle.validate_instructions.specs.declared.block.Shape.{Shape}
use Rattle.validate_instructions.specs.declared.block.OpenBlock.{OpenBlock}
use Rattle.validate_bodies.specs.declared.ends.BlockEnd.{BlockEnd}
use Rattle.validate_instructions.specs.declared.problem.Problem.{Problem}
use Rattle.validate_instructions.specs.declared.problem.Problem.TheVariants.{OutOfMemory, Wrong}
use Rattle.validate_instructions.specs.Kinds.{kind_at}
use Rattle.validate_instructions.specs.Blocks.{Known, as_label, label_of}
use Rattle.validate_bodies.specs.Ends.{Ends, ends_step, Close, Suits}

-- The second arm of an if is typed too. Without one an if has no result.
abbrev pub Awaits : Context → Arm → Shape → List FlatLabel → Option Code → Type 0
Awaits c Whole s labels other = ⊤
Awaits c Lone s labels None = s.results ≡ None
Awaits c Lone s labels (Some second) = HasType c (types_of (as_label s.label ∷ labels)) second [] (results_of s.results)
Awaits c First s labels None = s.results ≡ None
Awaits c First s labels (Some second) =
    HasType c (types_of (as_label s.label ∷ labels)) second [] (results_of s.results)

-- What is to come in the open blocks is typed, with these types on top of the stack of the innermost one.
abbrev pub Owed : Context → List ValType → List OpenBlock → List Level → Type 0
Owed c tops [] [] = ⊤
Owed c tops [] (l ∷ ls) = ⊥
Owed c tops (block ∷ blocks) [] = ⊥
Owed c tops (block ∷ blocks) (l ∷ ls) =
    (ts : List ValType) × Known block ts ×
    HasType c (types_of (map label_of (block ∷ blocks))) l.code (tops ++ ts) (results_of block.shape.results) ×
    Awaits c block.shape.arm block.shape (map label_of blocks) l.other
    × Owed c (results_of block.shape.results) blocks ls

-- The open blocks are kept with the innermost last; `own` is where the block ends that begins, if one does.
pub record Onward (c : Context) (i : Instr) (place : ℕ) (own : Option BlockEnd) (old new : List OpenBlock)
    : Type 0 where
  pub owed : (ls : List Level) → Owed c [] (reverse old) (before i ls) → Owed c [] (reverse new) ls
  pub close : (s : Ends) → Suits i own s → Close (reverse old) (ends_step i place s).opened
      → Close (reverse new) s.opened

abbrev pub OnwardAnywhere : Instr → ℕ → Option BlockEnd → List OpenBlock → List OpenBlock → Type 0
OnwardAnywhere i place own old new = (c : Context) → Onward c i place own old new

-- Memory ran out, or no typed code is to come, and this is the fault.
pub record NoneOwed (c : Context) (i : Instr) (old : List OpenBlock) (kind : Fault) : Type 0 where
  pub kind_is : kind ≡ kind_at c (types_of (map label_of (reverse old))) i
  pub never : (ls : List Level) → Owed c [] (reverse old) (before i ls) → ⊥

abbrev pub Stuck : Context → Instr → ℕ → Option BlockEnd → List OpenBlock → Problem → Type 0
Stuck c i place own old OutOfMemory = ⊤
Stuck c i place own old (Wrong kind) = (s : Ends) → Suits i own s → Close (reverse old) (ends_step i place s).opened
    → NoneOwed c i old kind

abbrev pub StuckAnywhere : Instr → ℕ → Option BlockEnd → List OpenBlock → Problem → Type 0
StuckAnywhere i place own old e = (c : Context) → Stuck c i place own old e
