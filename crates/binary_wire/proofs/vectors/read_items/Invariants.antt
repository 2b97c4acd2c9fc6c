use Rattle.std.proofs.Common.{◌≡◌, ◌-◌}
use Rattle.binary_wire.specs.Reading.{items_at}
use Rattle.binary_wire.proofs.Loop.{with_front}
use Rattle.binary_wire.proofs.vectors.read_items.Given as goal

abbrev pub invariant-loop : goal.invariant-loop
invariant-loop g l = record {
  keeps : l.reader.bounds ≡ l.fn.reader.bounds;
  so_far : with_front l.items.items (items_at g.T.Item.at (l.count - l.counter) l.fn.reader.bounds l.reader.rest.now)
      ≡ items_at g.T.Item.at l.count l.fn.reader.bounds l.fn.reader.rest.now;
}
