use Rattle.std.proofs.Common.{◌≡◌, ◌+◌, ◌≤◌, ◌++◌, vec_len, vec_items, vec_capacity}
use Rattle.std.specs.Vec.Iter.{into_iter_items, into_iter_len}
use Rattle.spawn_host_workers.specs.Crew.{idle_ends}
use Rattle.spawn_host_workers.proofs.crew.leave_idle.Given as goal

abbrev pub invariant-loop-seat : goal.invariant-loop-seat
invariant-loop-seat g l = record {
  ends : vec_items l.ends ++ idle_ends l.fn.gate (into_iter_items l.seat-iterator) ≡ vec_items l.initial.ends ++ idle_ends l.fn.gate (vec_items l.fn.seats);
  room : vec_len l.ends + into_iter_len l.seat-iterator ≤ vec_capacity l.ends;
}
