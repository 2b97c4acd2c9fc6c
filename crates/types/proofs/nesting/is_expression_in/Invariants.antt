use Rattle.std.proofs.Common.{◌≡◌, [], ◌∷◌, Some, false, drop}
use Rattle.types.specs.Tests.{closes}
use Rattle.types.proofs.nesting.is_expression_in.Given as goal

-- The rest closes what is open exactly where the whole is an expression.
abbrev pub invariant-loop-instr : goal.invariant-loop-instr
invariant-loop-instr l = closes (Some l.opens) (drop l.instr-index l.code) ≡ closes (Some (false ∷ [])) l.code
