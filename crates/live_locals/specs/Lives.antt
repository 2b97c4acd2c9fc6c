-- Nested code with the locals that are live before it, behind it and at its labels, each as a row of marks.
use Rattle.std.specs.Prelude.{◌≡◌, ℕ, Bool, List, [], ◌∷◌, Option, Some, None, true, Contains}
use Rattle.std.specs.List.{slice_get}
use Rattle.types.specs.declared.instr.PlainInstr.{PlainInstr}
use Rattle.types.specs.declared.instr.Instr.TheVariants as instrs
use Rattle.types.specs.Nesting.{Code, Empty, Then, BlockThen, LoopThen, IfThen, IfElseThen}
use Rattle.validate_typing.specs.Placed.{labels_of, goes_on}
use Rattle.interp_machine.specs.Config.{Label, Frame}
use Rattle.live_locals.specs.Live.{IsLive, Covers, read_by, written_by}

-- What is live by one row is live by the other.
abbrev pub Includes : List Bool → List Bool → Type 0
Includes row other = (local : ℕ) → IsLive other local → IsLive row local

-- Live before an instruction is what it reads, what is live behind it where it goes on, but for what it writes, and
-- what is live at the labels that it names.
pub record IsLiveBefore (outs : List (List Bool)) (op : PlainInstr) (before behind : List Bool) : Type 0 where
  pub reads : (local : ℕ) → read_by (instrs.Plain op) ≡ Some local → IsLive before local
  pub next : goes_on op true ≡ true → Covers before behind (written_by (instrs.Plain op))
  pub labels : (k : ℕ) (out : List Bool) → Contains (labels_of op) k → slice_get outs k ≡ Some out →
      Includes before out

-- Nested code, inside labels at which these locals are live, the innermost label first: so much is live before it, and
-- so much behind it. At a block's label is live what is live behind the block, at a loop's what is live before its
-- body.
abbrev pub Lives : List (List Bool) → List Bool → Code → List Bool → Type 0
Lives outs before Empty behind = Includes before behind
Lives outs before (Then op rest) behind =
    (middle : List Bool) × IsLiveBefore outs op before middle × Lives outs middle rest behind
Lives outs before (BlockThen t body rest) behind =
    (inner after : List Bool) × Includes before inner × Lives (after ∷ outs) inner body after
    × Lives outs after rest behind
Lives outs before (LoopThen t body rest) behind =
    (inner after : List Bool) × Includes before inner × Lives (inner ∷ outs) inner body after
    × Lives outs after rest behind
Lives outs before (IfThen t first rest) behind =
    (inner after : List Bool) × Includes before inner × Includes before after × Lives (after ∷ outs) inner first after
    × Lives outs after rest behind
Lives outs before (IfElseThen t first second rest) behind =
    (inner other after : List Bool) × Includes before inner × Includes before other
    × Lives (after ∷ outs) inner first after × Lives (after ∷ outs) other second after × Lives outs after rest behind

-- At the label of an open block is live what is live behind the block, or before the body that a branch runs again.
abbrev pub IsLiveAt : Option Code → List Bool → List (List Bool) → List Bool → Type 0
IsLiveAt None out outs behind = Includes out behind
IsLiveAt (Some body) out outs behind = Lives (out ∷ outs) out body behind

-- The open blocks of a frame, the innermost first, with what is live at their labels and behind the innermost one.
-- Behind the outermost one the function is left, and its locals are gone.
abbrev pub OpensLive : List Label → List (List Bool) → List Bool → Type 0
OpensLive [] outs behind = Unit {0}
OpensLive (l ∷ ls) [] behind = ⊥
OpensLive (l ∷ ls) (out ∷ outs) behind =
    (further : List Bool) × IsLiveAt l.again out outs behind × Lives outs behind l.after further
    × OpensLive ls outs further

-- So much is live where a frame stands.
pub record IsLiveFrame (row : List Bool) (f : Frame) : Type 0 where
  pub outs : List (List Bool)
  pub behind : List Bool
  pub code : Lives outs row f.code behind
  pub opens : OpensLive f.labels outs behind
