-- What the workers promise, and have done.
use Rattle.std.proofs.Common.{◌≡◌, List, [], ◌∷◌, ◌++◌, ◌∙◌, ap, subst}
use Rattle.std.specs.declared.thread.PromisedHandle.{PromisedHandle}
use Rattle.shared_memory.specs.declared.memory.SharedMemory.{Ghosts}
use Rattle.interp_trait.specs.Turns.{Meaning}
use Rattle.interp_trait.specs.declared.gate.Gate as gates
use Rattle.spawn_host_workers.specs.declared.worker.WorkerEnd.{WorkerEnd}
use Rattle.spawn_host_workers.specs.declared.crew.Duty.{Duty}
use Rattle.spawn_host_workers.specs.OverMemory.{OverMemory, over}
use Rattle.spawn_host_workers.specs.Pairs.{AllThree}
use Rattle.spawn_host_workers.specs.Works.{EndsWork}
use Rattle.spawn_host_workers.specs.Crew.{EndsFirst, IsCrew}
use Rattle.spawn_host_workers.specs.Duties.{IsDuty, IsDone, Joined}
use Rattle.spawn_host_workers.proofs.Pairing.{three_then}

module _ {T M S G : Type 0} (m : Ghosts M S) (gate : gates.Ghosts G) (old : G) (meaning : T → Meaning) (memory : M) where
  did : (thread : T) (seat : S) (handle : PromisedHandle (WorkerEnd S G) (Duty T M G S)) (end : WorkerEnd S G) → IsDuty memory old thread seat handle
      → IsDone m gate meaning handle end → EndsWork (over m memory) gate old meaning thread seat end
  did thread seat handle end duty done =
      let promised : OverMemory S = over m handle.promise.memory.value in
      subst (λ x. EndsWork (over m x) gate old meaning thread seat end) duty.memory_is
      (subst (λ x. EndsWork promised gate x meaning thread seat end) duty.gate_is
      (subst (λ t. EndsWork promised gate handle.promise.gate.value meaning t seat end) duty.thread_is
      (subst (λ s. EndsWork promised gate handle.promise.gate.value meaning handle.promise.thread.value s end) duty.seat_is done)))

  pub crew_of : (first : T) (seat : S) (threads : List T) (seats : List S)
      (handles : List (PromisedHandle (WorkerEnd S G) (Duty T M G S))) (head : WorkerEnd S G)
      (before ends : List (WorkerEnd S G))
      → EndsFirst (over m memory) gate old meaning first seat head → before ≡ head ∷ [] → AllThree (IsDuty memory old) threads seats handles
      → Joined (IsDone m gate meaning) handles before ends → IsCrew (over m memory) gate old meaning first seat threads seats ends
  crew_of first seat threads seats handles head before ends ended one duties joined = record {
    head = head;
    others = joined.joined;
    parts = joined.list ∙ ap (λ w. w ++ joined.joined) one;
    ended = ended;
    worked = three_then (IsDuty memory old) (IsDone m gate meaning) (EndsWork (over m memory) gate old meaning) did
        threads seats handles joined.joined duties joined.done;
  }
