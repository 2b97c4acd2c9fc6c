use Rattle.std.proofs.Common.{◌≡◌, take, vec_capacity}
use Rattle.report_runs.proofs.words.copy_bytes.Given as goal

abbrev pub invariant-loop-at : goal.invariant-loop-at
invariant-loop-at l =
    record {
      items : l.bytes.items ≡ take l.at l.closed.bytes;
      room : vec_capacity l.bytes ≡ vec_capacity l.initial.bytes;
    }
