use Rattle.std.specs.Prelude.{List}
use Rattle.validate_typing.specs.declared.target.Target.{Target}
use Rattle.validate.specs.Tables.{AreTables}
use Rattle.validate.proofs.alone.check_bodies.Given as goal

-- The bodies so far have tables, though none is kept.
abbrev pub invariant-loop-own : goal.invariant-loop-own
invariant-loop-own l = (tables : List (List (List Target))) × AreTables l.parts l.own tables
