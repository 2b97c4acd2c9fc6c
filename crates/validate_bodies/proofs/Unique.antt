-- What can be reached has one type alone.
use Rattle.std.proofs.Common.{◌≡◌, ℕ, List, [], ◌∷◌, ◌++◌, Option, Some, Bool, true, false, refl, sym, ◌∙◌, ap, subst, slice_get, reverse}
use Rattle.std.proofs.lemmas.List.{append_cancel_left}
use Rattle.types.specs.declared.value.ValType.{ValType}
use Rattle.types.specs.declared.value.ValType.TheVariants.{I32, I64}
use Rattle.types.specs.declared.parts.FuncType.{FuncType}
use Rattle.types.specs.declared.parts.GlobalType.{GlobalType}
use Rattle.types.specs.declared.instr.PlainInstr.{PlainInstr}
use Rattle.types.specs.declared.instr.PlainInstr.TheVariants as plain
use Rattle.types.specs.Nesting.{Code, Empty, Then, BlockThen, LoopThen, IfThen, IfElseThen}
use Rattle.validate_typing.specs.Context.{Context}
use Rattle.types.specs.Widths.{load_type, access_type}
use Rattle.validate_typing.specs.Typing.{results_of, numeric_takes, numeric_gives, atomic_takes, atomic_gives, Moves, CallsType, Fits, HasType}
use Rattle.validate_typing.specs.Placed.{goes_on}
use Rattle.validate_bodies.specs.Reached.{goes_through}
use Rattle.validate_instructions.proofs.Fitting.{same_found}

moves_same : (takes gives from to other : List ValType) → Moves takes gives from to → Moves takes gives from other → to ≡ other
moves_same takes gives from to other a b =
    let below : a.0 ≡ b.0 = append_cancel_left takes a.0 b.0 (sym a.1 ∙ b.1) in
    a.2 ∙ ap (λ (x : List ValType). gives ++ x) below ∙ sym b.2

calls_same : (c : Context) (more : List ValType) (i j : ℕ) (from to other : List ValType) → i ≡ j → CallsType c more i from to → CallsType c more j from other →
    to ≡ other
calls_same c more i j from to other e a b =
    let same : a.0 ≡ b.0 = same_found (slice_get c.types j) a.0 b.0 (rw e at a.1) b.1 in
    moves_same (more ++ reverse b.0.params) b.0.results from to other
    (subst (λ (t : FuncType). Moves (more ++ reverse t.params) t.results from to) same a.2) b.2

found_same : {A : Type 0} (o : Option A) (x y : A) (takes gives : A → List ValType) (from to other : List ValType) → o ≡ Some x → o ≡ Some y →
    Moves (takes x) (gives x) from to → Moves (takes y) (gives y) from other → to ≡ other
found_same {A} o x y takes gives from to other e f a b =
    moves_same (takes y) (gives y) from to other (subst (λ (z : A). Moves (takes z) (gives z) from to) (same_found o x y e f) a) b

drop_same : (t u : ValType) (from to other : List ValType) → Moves (t ∷ []) [] from to → Moves (u ∷ []) [] from other → to ≡ other
drop_same t u from to other a b = let e : t ∷ a.0 ≡ u ∷ b.0 = sym a.1 ∙ b.1 in let g : a.0 ≡ b.0 = cc in a.2 ∙ g ∙ sym b.2

select_same : (t u : ValType) (from to other : List ValType) → Moves (I32 ∷ (t ∷ (t ∷ []))) (t ∷ []) from to →
    Moves (I32 ∷ (u ∷ (u ∷ []))) (u ∷ []) from other → to ≡ other
select_same t u from to other a b =
    let e : I32 ∷ (t ∷ (t ∷ a.0)) ≡ I32 ∷ (u ∷ (u ∷ b.0)) = sym a.1 ∙ b.1 in
    let g : t ∷ a.0 ≡ u ∷ b.0 = cc in
    a.2 ∙ g ∙ sym b.2

-- an instruction that goes on
fits_same : (c : Context) (labels : List (List ValType)) (op : PlainInstr) (from to other : List ValType) → goes_on op true ≡ true →
    Fits c labels op from to → Fits c labels op from other → to ≡ other
fits_same c labels plain.Unreachable from to other g a b = absurd (cc)
fits_same c labels plain.Nop from to other g a b = moves_same [] [] from to other a b
fits_same c labels (plain.Br l) from to other g a b = absurd (cc)
fits_same c labels (plain.BrIf l) from to other g a b =
    found_same (slice_get labels l) a.0 b.0 (λ x. I32 ∷ x) (λ x. x) from to other a.1 b.1 a.2 b.2
fits_same c labels (plain.BrTable l ls) from to other g a b = absurd (cc)
fits_same c labels plain.Return from to other g a b = absurd (cc)
fits_same c labels (plain.Call f) from to other g a b =
    calls_same c [] a.0 b.0 from to other (same_found (slice_get c.functions f) a.0 b.0 a.1 b.1) a.2 b.2
fits_same c labels (plain.CallIndirect index) from to other g a b = calls_same c (I32 ∷ []) index index from to other refl a.2 b.2
fits_same c labels plain.Drop from to other g a b = drop_same a.0 b.0 from to other a.1 b.1
fits_same c labels plain.Select from to other g a b = select_same a.0 b.0 from to other a.1 b.1
fits_same c labels (plain.LocalGet x) from to other g a b =
    found_same (slice_get c.locals x) a.0 b.0 (λ t. []) (λ t. t ∷ []) from to other a.1 b.1 a.2 b.2
fits_same c labels (plain.LocalSet x) from to other g a b =
    found_same (slice_get c.locals x) a.0 b.0 (λ t. t ∷ []) (λ t. []) from to other a.1 b.1 a.2 b.2
fits_same c labels (plain.LocalTee x) from to other g a b =
    found_same (slice_get c.locals x) a.0 b.0 (λ t. t ∷ []) (λ t. t ∷ []) from to other a.1 b.1 a.2 b.2
fits_same c labels (plain.GlobalGet x) from to other g a b =
    found_same (slice_get c.globals x) a.0 b.0 (λ t. []) (λ (t : GlobalType). t.val_type ∷ []) from to other a.1 b.1 a.2 b.2
fits_same c labels (plain.GlobalSet x) from to other g a b =
    found_same (slice_get c.globals x) a.0 b.0 (λ (t : GlobalType). t.val_type ∷ []) (λ t. []) from to other a.1 b.1 a.3 b.3
fits_same c labels (plain.I32Const n) from to other g a b = moves_same [] (I32 ∷ []) from to other a b
fits_same c labels (plain.I64Const n) from to other g a b = moves_same [] (I64 ∷ []) from to other a b
fits_same c labels (plain.Numeric n) from to other g a b = moves_same (numeric_takes n) (numeric_gives n ∷ []) from to other a b
fits_same c labels (plain.Load op arg) from to other g a b = moves_same (I32 ∷ []) (load_type op ∷ []) from to other a.2 b.2
fits_same c labels (plain.Store w arg) from to other g a b = moves_same (access_type w ∷ (I32 ∷ [])) [] from to other a.2 b.2
fits_same c labels plain.MemorySize from to other g a b = moves_same [] (I32 ∷ []) from to other a.1 b.1
fits_same c labels plain.MemoryGrow from to other g a b = moves_same (I32 ∷ []) (I32 ∷ []) from to other a.1 b.1
fits_same c labels (plain.Atomic op arg) from to other g a b =
    moves_same (atomic_takes op) (results_of (atomic_gives op)) from to other a.2 b.2
fits_same c labels plain.Fence from to other g a b = moves_same [] [] from to other a b

goes_on_not : (op : PlainInstr) → goes_on op false ≡ false
goes_on_not plain.Unreachable = refl
goes_on_not plain.Nop = refl
goes_on_not (plain.Br l) = refl
goes_on_not (plain.BrIf l) = refl
goes_on_not (plain.BrTable l ls) = refl
goes_on_not plain.Return = refl
goes_on_not (plain.Call f) = refl
goes_on_not (plain.CallIndirect index) = refl
goes_on_not plain.Drop = refl
goes_on_not plain.Select = refl
goes_on_not (plain.LocalGet x) = refl
goes_on_not (plain.LocalSet x) = refl
goes_on_not (plain.LocalTee x) = refl
goes_on_not (plain.GlobalGet x) = refl
goes_on_not (plain.GlobalSet x) = refl
goes_on_not (plain.I32Const n) = refl
goes_on_not (plain.I64Const n) = refl
goes_on_not (plain.Numeric n) = refl
goes_on_not (plain.Load op arg) = refl
goes_on_not (plain.Store w arg) = refl
goes_on_not plain.MemorySize = refl
goes_on_not plain.MemoryGrow = refl
goes_on_not (plain.Atomic op arg) = refl
goes_on_not plain.Fence = refl

pub through_not : (code : Code) → goes_through code false ≡ false
through_not Empty = refl
through_not (Then op rest) = ap (goes_through rest) (goes_on_not op) ∙ through_not rest
through_not (BlockThen t body rest) = through_not rest
through_not (LoopThen t body rest) = through_not rest
through_not (IfThen t first rest) = through_not rest
through_not (IfElseThen t first second rest) = through_not rest

-- what is reached behind code was reached before it
pub reached_before : (code : Code) (live : Bool) → goes_through code live ≡ true → live ≡ true
reached_before code true e = refl
reached_before code false e = sym (through_not code) ∙ e

pub same_types : (c : Context) (labels : List (List ValType)) (code : Code) (from to other : List ValType) → goes_through code true ≡ true →
    HasType c labels code from to → HasType c labels code from other → to ≡ other
same_types c labels Empty from to other g a b = sym a ∙ b
same_types c labels (Then op rest) from to other g a b =
    let on : goes_on op true ≡ true = reached_before rest (goes_on op true) g in
    let middle : a.0 ≡ b.0 = fits_same c labels op from a.0 b.0 on a.1 b.1 in
    same_types c labels rest b.0 to other (rw on at g) (subst (λ (x : List ValType). HasType c labels rest x to) middle a.2) b.2
same_types c labels (BlockThen t body rest) from to other g a b = same_types c labels rest (results_of t ++ from) to other g a.1 b.1
same_types c labels (LoopThen t body rest) from to other g a b = same_types c labels rest (results_of t ++ from) to other g a.1 b.1
same_types c labels (IfThen t first rest) from to other g a b =
    let e : I32 ∷ a.0 ≡ I32 ∷ b.0 = sym a.1 ∙ b.1 in
    let below : a.0 ≡ b.0 = cc in
    same_types c labels rest (results_of t ++ b.0) to other g (subst (λ (x : List ValType). HasType c labels rest (results_of t ++ x) to) below a.4) b.4
same_types c labels (IfElseThen t first second rest) from to other g a b =
    let e : I32 ∷ a.0 ≡ I32 ∷ b.0 = sym a.1 ∙ b.1 in
    let below : a.0 ≡ b.0 = cc in
    same_types c labels rest (results_of t ++ b.0) to other g (subst (λ (x : List ValType). HasType c labels rest (results_of t ++ x) to) below a.4) b.4
