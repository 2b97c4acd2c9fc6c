use Rattle.std.proofs.Common.{◌≡◌, ◌-◌, length}
use Rattle.binary.specs.Reading.{customs_at}
use Rattle.binary.proofs.sections.read_customs.Given as goal

abbrev pub invariant-loop : goal.invariant-loop
invariant-loop l = record {
  keeps : l.reader.bounds ≡ l.fn.reader.bounds;
  top : l.end ≡ length l.fn.reader.rest.now;
  so_far : customs_at (l.end - l.counter) l.fn.reader.bounds l.reader.rest.now
      ≡ customs_at (length l.fn.reader.rest.now) l.fn.reader.bounds l.fn.reader.rest.now;
}
