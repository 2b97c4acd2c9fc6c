use Rattle.std.proofs.Common.{◌≡◌, ◌+◌, drop}
use Rattle.std.specs.List.{AllZip}
use Rattle.report_looks.specs.PageMoments.{IsMomentAt, size_of}
use Rattle.report_looks.specs.declared.moments.TheConstants.{MOST_MOMENT_BYTES}
use Rattle.report_looks.proofs.moments.moments_at.Given as goal

abbrev pub invariant-loop-k : goal.invariant-loop-k
invariant-loop-k l = record {
  each : AllZip (IsMomentAt l.seen l.races) (drop l.k l.places) l.moments.items;
  room : size_of l.moments.items + l.room ≡ MOST_MOMENT_BYTES;
}
