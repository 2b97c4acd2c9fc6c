use Rattle.std.proofs.Common.{◌≡◌, map, take, Some}
use Rattle.validate_bodies.proofs.reached.known_types.Given as goal

abbrev pub invariant-loop-operand : goal.invariant-loop-operand
invariant-loop-operand l = map Some l.types.items ≡ take l.operand-index l.operands
