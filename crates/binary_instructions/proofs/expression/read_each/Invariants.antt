use Rattle.std.proofs.Common.{◌≡◌, ◌-◌, ◌<◌, ◌∷◌, [], false, length, reverse}
use Rattle.binary_wire.proofs.Loop.{with_front}
use Rattle.binary_instructions.specs.Reading.{kept_at}
use Rattle.binary_instructions.proofs.expression.read_each.Given as goal

abbrev pub invariant-loop : goal.invariant-loop
invariant-loop g l = record {
  keeps : l.reader.bounds ≡ l.fn.reader.bounds;
  some : 0 < length (reverse l.open_blocks.items);
  top : l.end ≡ length l.fn.reader.rest.now;
  so_far : with_front l.kept.items (kept_at g.T.Keep.kept (l.end - l.counter) (reverse l.open_blocks.items) l.fn.reader.bounds l.reader.rest.now)
      ≡ kept_at g.T.Keep.kept l.end (false ∷ []) l.fn.reader.bounds l.fn.reader.rest.now;
}
