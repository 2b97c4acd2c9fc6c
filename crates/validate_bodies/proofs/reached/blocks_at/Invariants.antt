use Rattle.std.proofs.Common.{reverse, take}
use Rattle.validate_instructions.specs.Scope.{context_of}
use Rattle.validate_bodies.specs.Forth.{Comes}
use Rattle.validate_bodies.proofs.Whole.{CheckedOn}
use Rattle.validate_bodies.proofs.reached.blocks_at.Given as goal

abbrev pub invariant-loop-here : goal.invariant-loop-here
invariant-loop-here l = record {
  on : CheckedOn (context_of l.scope) l.code (reverse l.blocks.items) (reverse l.ends.ends.items) l.here;
  comes : Comes (context_of l.scope) (take l.here l.code) (reverse l.blocks.items);
}
