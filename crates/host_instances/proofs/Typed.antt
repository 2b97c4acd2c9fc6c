-- Code is typed where another memory is there, of whatever size.
use Rattle.std.proofs.Common.{ℕ, List, [], ◌∷◌, ◌++◌}
use Rattle.types.specs.declared.value.ValType.{ValType}
use Rattle.types.specs.declared.instr.PlainInstr.{PlainInstr}
use Rattle.types.specs.declared.instr.PlainInstr.TheVariants as plain
use Rattle.types.specs.declared.instr.Instr.{Instr}
use Rattle.types.specs.declared.parts.Limits.{Limits}
use Rattle.types.specs.declared.parts.Body.{Body}
use Rattle.types.specs.Nesting.{Code, Empty, Then, BlockThen, LoopThen, IfThen, IfElseThen}
use Rattle.validate_typing.specs.Context.{Context, in_function}
use Rattle.validate_typing.specs.Typing.{Fits, HasMemory, HasType, IsTyped, results_of}
use Rattle.validate_typing.specs.Validity.{IsValidFunction}

abbrev pub with_memories : Context → List Limits → Context
with_memories c ms = record c { memories = ms }

module _ (c : Context) (ms : List Limits) (has : HasMemory c → HasMemory (with_memories c ms)) where
  abbrev d : Context
  d = with_memories c ms

  fits : (labels : List (List ValType)) (op : PlainInstr) (from to : List ValType) → Fits c labels op from to → Fits d labels op from to
  fits labels (plain.Load op arg) from to f = (has f.0, f.1, f.2)
  fits labels (plain.Store w arg) from to f = (has f.0, f.1, f.2)
  fits labels plain.MemorySize from to f = (has f.0, f.1)
  fits labels plain.MemoryGrow from to f = (has f.0, f.1)
  fits labels (plain.Atomic op arg) from to f = (has f.0, f.1, f.2)
  fits labels _ from to f = f

  typed : (code : Code) (labels : List (List ValType)) (from to : List ValType) → HasType c labels code from to → HasType d labels code from to
  typed Empty labels from to t = t
  typed (Then op rest) labels from to t = (t.0, fits labels op from t.0 t.1, typed rest labels t.0 to t.2)
  typed (BlockThen r body rest) labels from to t =
      (typed body (results_of r ∷ labels) [] (results_of r) t.0, typed rest labels (results_of r ++ from) to t.1)
  typed (LoopThen r body rest) labels from to t =
      (typed body ([] ∷ labels) [] (results_of r) t.0, typed rest labels (results_of r ++ from) to t.1)
  typed (IfThen r first rest) labels from to t =
      (t.0, t.1, t.2, typed first (results_of r ∷ labels) [] (results_of r) t.3, typed rest labels (results_of r ++ t.0) to t.4)
  typed (IfElseThen r first second rest) labels from to t = (
    t.0,
    t.1,
    typed first (results_of r ∷ labels) [] (results_of r) t.2,
    typed second (results_of r ∷ labels) [] (results_of r) t.3,
    typed rest labels (results_of r ++ t.0) to t.4,
  )

  pub is_typed : (code : List Instr) → IsTyped c code → IsTyped d code
  is_typed code t = (t.0, t.1, typed t.0 (c.results ∷ []) [] c.results t.2)

-- the same of a function of a module
pub function_typed : (c : Context) (ms : List Limits) → (HasMemory c → HasMemory (with_memories c ms)) → (index : ℕ) (body : Body)
    → IsValidFunction c index body → IsValidFunction (with_memories c ms) index body
function_typed c ms has index body v = (v.0, v.1, is_typed (in_function c v.0 body) ms has body.code v.2)
