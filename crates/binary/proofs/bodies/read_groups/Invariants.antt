use Rattle.std.proofs.Common.{◌≡◌, ◌-◌}
use Rattle.binary_wire.proofs.Loop.{with_front}
use Rattle.binary.specs.Reading.{groups_at}
use Rattle.binary.proofs.bodies.read_groups.Given as goal

abbrev pub invariant-loop : goal.invariant-loop
invariant-loop l = record {
  keeps : l.reader.bounds ≡ l.fn.reader.bounds;
  so_far : with_front l.locals.items (groups_at (l.count - l.counter) l.left l.fn.reader.bounds l.reader.rest.now)
      ≡ groups_at l.count l.fn.room l.fn.reader.bounds l.fn.reader.rest.now;
}
