use Rattle.std.proofs.Common.{◌≡◌, drop}
use Rattle.binary_wire.proofs.Loop.{with_front}
use Rattle.binary.specs.Reading.{bodies_at}
use Rattle.binary.proofs.bodies.read_bodies.Given as goal

abbrev pub invariant-loop-i : goal.invariant-loop-i
invariant-loop-i l = record {
  keeps : l.reader.bounds ≡ l.fn.reader.bounds;
  so_far : with_front l.bodies.items (bodies_at l.types (drop l.i l.functions) l.fn.reader.bounds l.reader.rest.now)
      ≡ bodies_at l.types l.functions l.fn.reader.bounds l.fn.reader.rest.now;
}
