-- What the workers promise.
use Rattle.std.specs.Prelude.{◌≡◌, List, ◌++◌}
use Rattle.shared_memory.specs.declared.memory.SharedMemory.{Ghosts}
use Rattle.interp_trait.specs.Turns.{Meaning}
use Rattle.interp_trait.specs.declared.gate.Gate as gates
use Rattle.spawn_host_workers.specs.OverMemory.{over}
use Rattle.spawn_host_workers.specs.Pairs.{Together}
use Rattle.spawn_host_workers.specs.Works.{EndsWork}
use Rattle.std.specs.declared.thread.PromisedHandle.{PromisedHandle}
use Rattle.spawn_host_workers.specs.declared.worker.WorkerEnd.{WorkerEnd}
use Rattle.spawn_host_workers.specs.declared.crew.Duty.{Duty}

-- A handle's promise is of this memory, this gate, this thread and this seat.
pub record IsDuty {T M S G : Type 0} (memory : M) (gate : G) (thread : T) (seat : S)
    (handle : PromisedHandle (WorkerEnd S G) (Duty T M G S)) : Type 0 where
  pub memory_is : handle.promise.memory.value ≡ memory
  pub gate_is : handle.promise.gate.value ≡ gate
  pub thread_is : handle.promise.thread.value ≡ thread
  pub seat_is : handle.promise.seat.value ≡ seat

-- A worker did what its handle promises.
abbrev pub IsDone : {T M S G : Type 0} → Ghosts M S → gates.Ghosts G → (T → Meaning)
    → PromisedHandle (WorkerEnd S G) (Duty T M G S) → WorkerEnd S G → Type 0
IsDone m gate meaning handle end =
    EndsWork (over m handle.promise.memory.value) gate handle.promise.gate.value meaning handle.promise.thread.value
    handle.promise.seat.value end

-- The workers' ends come behind those that are there already, in the order of the handles.
pub record Joined {H E : Type 0} (Done : H → E → Type 0) (handles : List H) (before after : List E) : Type 0 where
  pub joined : List E
  pub list : after ≡ before ++ joined
  pub done : Together Done handles joined
