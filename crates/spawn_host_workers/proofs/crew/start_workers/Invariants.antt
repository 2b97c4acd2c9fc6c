use Rattle.std.proofs.Common.{◌≡◌, ◌+◌, ◌≤◌, [], All, vec_len, vec_items, vec_capacity}
use Rattle.std.specs.Vec.Iter.{into_iter_items, into_iter_len}
use Rattle.shared_memory.specs.History.{entries_of}
use Rattle.interp_trait.specs.Turns.{MayBeSpawned}
use Rattle.spawn_host_workers.specs.Duties.{IsDuty}
use Rattle.spawn_host_workers.proofs.Pairing.{SoFar}
use Rattle.spawn_host_workers.proofs.crew.start_workers.Given as goal

abbrev pub invariant-loop-seat : goal.invariant-loop-seat
invariant-loop-seat g l =
    let m = g.M.SharedMemory in record {
      len : vec_len l.handles + into_iter_len l.seat-iterator ≡ vec_len l.fn.seats;
      room : vec_len l.fn.seats ≤ vec_capacity l.handles;
      same : into_iter_len l.threads ≡ into_iter_len l.seat-iterator;
      new : All (λ s. entries_of (m.name s) (m.seen s) ≡ []) (into_iter_items l.seat-iterator);
      begins : All (λ t. MayBeSpawned (g.T.TakesTurns.meaning t)) (into_iter_items l.threads);
      duties : SoFar (IsDuty l.place.memory.now l.place.gate.now) (vec_items l.fn.threads) (vec_items l.fn.seats) (vec_items l.handles)
          (into_iter_items l.threads) (into_iter_items l.seat-iterator);
    }
