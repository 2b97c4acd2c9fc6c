-- The typing rules of instructions (Core specification 1.0, chapter 3.3; threads proposal, "Atomic Memory
-- Accesses"). Lists of operand types have the top of the stack first.
use Rattle.std.specs.Prelude.{◌≡◌, ℕ, ◌≤◌, ◌^◌, List, [], ◌∷◌, ◌++◌, reverse, Option, Some, None, true}
use Rattle.std.specs.Bool.{⊤}
use Rattle.std.specs.List.{slice_get, All}
use Rattle.types.specs.declared.value.ValType.{ValType}
use Rattle.types.specs.declared.value.ValType.TheVariants.{I32, I64}
use Rattle.types.specs.declared.operators.ConvertOp.TheVariants as convert
use Rattle.types.specs.declared.operators.NumericInstr.{NumericInstr}
use Rattle.types.specs.declared.operators.NumericInstr.TheVariants as numeric
use Rattle.types.specs.declared.operators.AtomicOp.{AtomicOp}
use Rattle.types.specs.declared.operators.AtomicOp.TheVariants as atomic
use Rattle.types.specs.declared.operators.MemArg.{MemArg}
use Rattle.types.specs.declared.instr.PlainInstr.{PlainInstr}
use Rattle.types.specs.declared.instr.PlainInstr.TheVariants as plain
use Rattle.types.specs.declared.instr.Instr.{Instr}
use Rattle.types.specs.declared.instr.Instr.TheVariants as instrs
use Rattle.types.specs.declared.parts.Limits.{Limits}
use Rattle.types.specs.declared.parts.FuncType.{FuncType}
use Rattle.types.specs.declared.parts.GlobalType.{GlobalType}
use Rattle.types.specs.Nesting.{Code, Empty, Then, BlockThen, LoopThen, IfThen, IfElseThen, flat}
use Rattle.types.specs.Widths.{narrow_type, load_type, load_bytes, access_type, access_bytes, atomic_bytes}
use Rattle.validate_typing.specs.Context.{Context}

-- The result of a block, as a list (section 3.2.2).
abbrev pub results_of : Option ValType → List ValType
results_of None = []
results_of (Some t) = t ∷ []

-- What a numeric instruction takes (section 3.3.1).
abbrev pub numeric_takes : NumericInstr → List ValType
numeric_takes (numeric.Unary t op) = t ∷ []
numeric_takes (numeric.Binary t op) = t ∷ (t ∷ [])
numeric_takes (numeric.Test t) = t ∷ []
numeric_takes (numeric.Compare t op) = t ∷ (t ∷ [])
numeric_takes (numeric.Convert convert.WrapI64) = I64 ∷ []
numeric_takes (numeric.Convert convert.ExtendI32S) = I32 ∷ []
numeric_takes (numeric.Convert convert.ExtendI32U) = I32 ∷ []
numeric_takes (numeric.Convert (convert.SignExtend w)) = narrow_type w ∷ []

-- What a numeric instruction gives (section 3.3.1).
abbrev pub numeric_gives : NumericInstr → ValType
numeric_gives (numeric.Unary t op) = t
numeric_gives (numeric.Binary t op) = t
numeric_gives (numeric.Test t) = I32
numeric_gives (numeric.Compare t op) = I32
numeric_gives (numeric.Convert convert.WrapI64) = I32
numeric_gives (numeric.Convert convert.ExtendI32S) = I64
numeric_gives (numeric.Convert convert.ExtendI32U) = I64
numeric_gives (numeric.Convert (convert.SignExtend w)) = narrow_type w

-- What an atomic instruction takes and gives (threads proposal).
abbrev pub atomic_takes : AtomicOp → List ValType
atomic_takes atomic.Notify = I32 ∷ (I32 ∷ [])
atomic_takes (atomic.Wait t) = I64 ∷ (t ∷ (I32 ∷ []))
atomic_takes (atomic.Load w) = I32 ∷ []
atomic_takes (atomic.Store w) = access_type w ∷ (I32 ∷ [])
atomic_takes (atomic.Rmw op w) = access_type w ∷ (I32 ∷ [])
atomic_takes (atomic.Cmpxchg w) = access_type w ∷ (access_type w ∷ (I32 ∷ []))

abbrev pub atomic_gives : AtomicOp → Option ValType
atomic_gives atomic.Notify = Some I32
atomic_gives (atomic.Wait t) = Some I32
atomic_gives (atomic.Load w) = Some (access_type w)
atomic_gives (atomic.Store w) = None
atomic_gives (atomic.Rmw op w) = Some (access_type w)
atomic_gives (atomic.Cmpxchg w) = Some (access_type w)

-- From a stack of these types to a stack of those, by taking some and giving others.
abbrev pub Moves : List ValType → List ValType → List ValType → List ValType → Type 0
Moves takes gives from to = (below : List ValType) × (from ≡ takes ++ below) × (to ≡ gives ++ below)

-- A stack with these types on top.
abbrev pub HasOnTop : List ValType → List ValType → Type 0
HasOnTop tops from = (below : List ValType) × (from ≡ tops ++ below)

-- There is a memory.
abbrev pub HasMemory : Context → Type 0
HasMemory c = (l : Limits) × (slice_get c.memories 0 ≡ Some l)

-- A plain access is aligned to its width at most (section 3.3.4), an atomic one exactly (threads proposal).
abbrev pub IsAligned : MemArg → ℕ → Type 0
IsAligned arg bytes = 2 ^ arg.align ≤ bytes

abbrev pub IsExactlyAligned : MemArg → ℕ → Type 0
IsExactlyAligned arg bytes = 2 ^ arg.align ≡ bytes

-- A call of a function of a type (section 3.3.5.10), where these are taken besides the arguments.
abbrev pub CallsType : Context → List ValType → ℕ → List ValType → List ValType → Type 0
CallsType c more index from to = (t : FuncType) × (slice_get c.types index ≡ Some t)
    × Moves (more ++ reverse t.params) t.results from to

-- An instruction, inside these labels, may stand between a stack of these types and a stack of those. After one that
-- never goes on, the types are free (sections 3.3.1 to 3.3.5).
abbrev pub Fits : Context → List (List ValType) → PlainInstr → List ValType → List ValType → Type 0
Fits c labels plain.Unreachable from to = ⊤
Fits c labels plain.Nop from to = Moves [] [] from to
Fits c labels (plain.Br l) from to = (carried : List ValType) × (slice_get labels l ≡ Some carried)
    × HasOnTop carried from
Fits c labels (plain.BrIf l) from to = (carried : List ValType) × (slice_get labels l ≡ Some carried)
    × Moves (I32 ∷ carried) carried from to
Fits c labels (plain.BrTable l ls) from to =
    (carried : List ValType) × All (λ k. slice_get labels k ≡ Some carried) (ls ++ (l ∷ []))
    × HasOnTop (I32 ∷ carried) from
Fits c labels plain.Return from to = HasOnTop c.results from
Fits c labels (plain.Call f) from to = (index : ℕ) × (slice_get c.functions f ≡ Some index)
    × CallsType c [] index from to
Fits c labels (plain.CallIndirect index) from to = (l : Limits) × (slice_get c.tables 0 ≡ Some l)
    × CallsType c (I32 ∷ []) index from to
Fits c labels plain.Drop from to = (t : ValType) × Moves (t ∷ []) [] from to
Fits c labels plain.Select from to = (t : ValType) × Moves (I32 ∷ (t ∷ (t ∷ []))) (t ∷ []) from to
Fits c labels (plain.LocalGet x) from to = (t : ValType) × (slice_get c.locals x ≡ Some t) × Moves [] (t ∷ []) from to
Fits c labels (plain.LocalSet x) from to = (t : ValType) × (slice_get c.locals x ≡ Some t) × Moves (t ∷ []) [] from to
Fits c labels (plain.LocalTee x) from to = (t : ValType) × (slice_get c.locals x ≡ Some t)
    × Moves (t ∷ []) (t ∷ []) from to
Fits c labels (plain.GlobalGet x) from to = (g : GlobalType) × (slice_get c.globals x ≡ Some g)
    × Moves [] (g.val_type ∷ []) from to
Fits c labels (plain.GlobalSet x) from to =
    (g : GlobalType) × (slice_get c.globals x ≡ Some g) × (g.mutable ≡ true) × Moves (g.val_type ∷ []) [] from to
Fits c labels (plain.I32Const n) from to = Moves [] (I32 ∷ []) from to
Fits c labels (plain.I64Const n) from to = Moves [] (I64 ∷ []) from to
Fits c labels (plain.Numeric n) from to = Moves (numeric_takes n) (numeric_gives n ∷ []) from to
Fits c labels (plain.Load op arg) from to = HasMemory c × IsAligned arg (load_bytes op)
    × Moves (I32 ∷ []) (load_type op ∷ []) from to
Fits c labels (plain.Store w arg) from to = HasMemory c × IsAligned arg (access_bytes w)
    × Moves (access_type w ∷ (I32 ∷ [])) [] from to
Fits c labels plain.MemorySize from to = HasMemory c × Moves [] (I32 ∷ []) from to
Fits c labels plain.MemoryGrow from to = HasMemory c × Moves (I32 ∷ []) (I32 ∷ []) from to
Fits c labels (plain.Atomic op arg) from to =
    HasMemory c × IsExactlyAligned arg (atomic_bytes op)
    × Moves (atomic_takes op) (results_of (atomic_gives op)) from to
Fits c labels plain.Fence from to = Moves [] [] from to

-- Nested instructions, inside these labels, lead from a stack of these types to a stack of those (sections 3.3.5 and
-- 3.3.6). A block's label carries its results, a loop's carries nothing.
abbrev pub HasType : Context → List (List ValType) → Code → List ValType → List ValType → Type 0
HasType c labels Empty from to = from ≡ to
HasType c labels (Then op rest) from to = (middle : List ValType) × Fits c labels op from middle
    × HasType c labels rest middle to
HasType c labels (BlockThen t body rest) from to =
    HasType c (results_of t ∷ labels) body [] (results_of t) × HasType c labels rest (results_of t ++ from) to
HasType c labels (LoopThen t body rest) from to =
    HasType c ([] ∷ labels) body [] (results_of t) × HasType c labels rest (results_of t ++ from) to
HasType c labels (IfThen t first rest) from to =
    (below : List ValType) × (from ≡ I32 ∷ below) × (t ≡ None) ×
    HasType c (results_of t ∷ labels) first [] (results_of t) ×
    HasType c labels rest (results_of t ++ below) to
HasType c labels (IfElseThen t first second rest) from to =
    (below : List ValType) × (from ≡ I32 ∷ below) ×
    HasType c (results_of t ∷ labels) first [] (results_of t) ×
    HasType c (results_of t ∷ labels) second [] (results_of t) ×
    HasType c labels rest (results_of t ++ below) to

-- A flat body is typed: it stands for nested instructions that lead from an empty stack to the results (section 3.4.1).
abbrev pub IsTyped : Context → List Instr → Type 0
IsTyped c code = (nested : Code) × (code ≡ flat nested ++ (instrs.End ∷ []))
    × HasType c (c.results ∷ []) nested [] c.results
