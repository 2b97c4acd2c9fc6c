-- Expressions of the binary format are nested blocks with a final end.
use Rattle.std.proofs.Common.{ℕ, List}
use Rattle.types.specs.declared.instr.Instr.{Instr}
use Rattle.types.specs.Nesting.{IsExpression}
use Rattle.binary_instructions.specs.Grammar.{SpellsExpression}

pub nested : (bytes : List ℕ) (code : List Instr) (rest : List ℕ) → SpellsExpression bytes code rest → IsExpression code
nested bytes code rest h = h.1
