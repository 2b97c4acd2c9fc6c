use Rattle.std.proofs.Common.{◌+◌, ◌≤◌, vec_len, vec_items, vec_capacity}
use Rattle.std.specs.Vec.Iter.{into_iter_items, into_iter_len}
use Rattle.spawn_host_workers.specs.Duties.{IsDone}
use Rattle.spawn_host_workers.proofs.Pairing.{JoinedSoFar}
use Rattle.spawn_host_workers.proofs.crew.join_all.Given as goal

abbrev pub invariant-loop-handle : goal.invariant-loop-handle
invariant-loop-handle g l =
    let m = g.M.SharedMemory in
    let t = g.T.TakesTurns in record {
      room : vec_len l.ends + into_iter_len l.handle-iterator ≤ vec_capacity l.ends;
      joined : JoinedSoFar (IsDone m g.G.Gate t.meaning) (vec_items l.fn.handles)
          (vec_items l.initial.ends) (vec_items l.ends) (into_iter_items l.handle-iterator);
    }
