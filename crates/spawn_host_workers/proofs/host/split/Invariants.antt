use Rattle.std.proofs.Common.{◌≡◌, ◌+◌, ◌≤◌, ◌++◌, vec_len, vec_items, vec_capacity}
use Rattle.std.specs.Vec.Iter.{into_iter_items, into_iter_len}
use Rattle.spawn_host_workers.specs.Composed.{reported, seats_of}
use Rattle.spawn_host_workers.proofs.host.split.Given as goal

abbrev pub invariant-loop-end : goal.invariant-loop-end
invariant-loop-end g l = record {
  threads : vec_items l.threads ++ reported (into_iter_items l.end-iterator) ≡ reported (vec_items l.fn.ends);
  seats : vec_items l.seats ++ seats_of (into_iter_items l.end-iterator) ≡ seats_of (vec_items l.fn.ends);
  room : vec_len l.threads + into_iter_len l.end-iterator ≤ vec_capacity l.threads;
  len : vec_len l.seats + into_iter_len l.end-iterator ≡ vec_len l.fn.ends;
  space : vec_capacity l.seats ≡ vec_capacity l.initial.seats;
}
