-- What the threads of a run bring back.
use Rattle.std.specs.Prelude.{ℕ, ◌≡◌, ◌<◌, ◌⊎◌, Bool, List, [], ◌∷◌, length, All, Option, Some, None}
use mathlib.Core.List.{IsPrefix}
use Rattle.types.specs.declared.event.Entry.{Entry}
use Rattle.types.specs.declared.outcome.ThreadReport.{ThreadReport}
use Rattle.types.specs.declared.limits.TheConstants.{MOST_SPAWNED, MOST_THREADS}
use Rattle.shared_memory.specs.Memory.{Memory}
use Rattle.shared_memory.specs.History.{entries_of, queue_after}
use Rattle.shared_memory.specs.WaitQueue.{IsFree}
use Rattle.interp_machine.specs.Program.{Program}
use Rattle.interp_trait.specs.Turns.{Running, Meaning, IsHere, MayRun, MayBeSpawned}
use Rattle.spawn_host_workers.specs.Ends.{IsLast, RunsOut}
use Rattle.spawn_host_workers.specs.declared.worker.WorkerEnd.{WorkerEnd}
use Rattle.spawn_host_workers.specs.declared.crew.Crew.{Crew}
use Rattle.spawn_host_workers.specs.Pairs.{AllThree}
use Rattle.spawn_host_workers.specs.OverMemory.{OverMemory}
use Rattle.interp_trait.specs.declared.gate.Gate.{Ghosts}
use Rattle.spawn_host_workers.specs.Gated.{PassesFirst}
use Rattle.spawn_host_workers.specs.Works.{EndsWork}

-- What a crew begins with: a first thread with its seat, others that weren't spawned yet, and seats for those that are
-- new.
pub record MayStart {S T : Type 0} (name : S → ℕ) (seen : S → List Entry) (meaning : T → Meaning) (crew : Crew T S)
    : Type 0 where
  pub here : MayRun (meaning crew.first)
  pub free : IsFree (queue_after (seen crew.seat)) (name crew.seat)
  pub few : length crew.seats.items < MOST_THREADS
  pub new : All (λ (s : S). entries_of (name s) (seen s) ≡ []) crew.seats.items
  pub begins : All (λ (t : T). MayBeSpawned (meaning t)) crew.threads.items

-- The first thread ran from its start to its end.
pub record RunsFirst (loses : Bool) (opening : Memory) (limit : Option ℕ) (n : ℕ) (m : Meaning) (report : ThreadReport)
    (before after : List Entry) : Type 0 where
  pub ran : (t : Running) → m.stands t → IsHere t
      → RunsOut m.program loses opening limit n t report.outcome report.spent m.fuel before after
  pub grows : IsPrefix before after
  pub last : IsLast opening n after

abbrev pub WorksFirst : Bool → Memory → Option ℕ → ℕ → Meaning → Option ThreadReport → List Entry → List Entry → Type 0
WorksFirst loses opening limit n m None before after = ⊥
WorksFirst loses opening limit n m (Some report) before after = RunsFirst loses opening limit n m report before after

pub record EndsFirst {S T G : Type 0} (mem : OverMemory S) (gate : Ghosts G) (old : G) (meaning : T
    → Meaning) (thread : T) (seat : S) (end : WorkerEnd S G) : Type 0 where
  pub name_is : mem.name end.seat ≡ mem.name seat
  pub works : WorksFirst mem.loses mem.opening mem.limit (mem.name seat) (meaning thread) end.report (mem.seen seat)
      (mem.seen end.seat)
  pub gated : PassesFirst gate (mem.name seat) (meaning thread) end.report old end.gate

-- The end of a worker whose thread can't be spawned: its seat and its gate come back as they are.
abbrev pub idle_end : {S G : Type 0} → G → S → WorkerEnd S G
idle_end gate seat = record { report = None; seat = seat; gate = gate }

abbrev pub idle_ends : {S G : Type 0} → G → List S → List (WorkerEnd S G)
idle_ends gate [] = []
idle_ends gate (seat ∷ seats) = idle_end gate seat ∷ idle_ends gate seats

module _ {S T G : Type 0} (mem : OverMemory S) (gate : Ghosts G) (old : G) (meaning : T → Meaning) where
  -- The ends of the first thread and of the workers, in order.
  pub record IsCrew (first : T) (seat : S) (threads : List T) (seats : List S) (ends : List (WorkerEnd S G))
      : Type 0 where
    pub head : WorkerEnd S G
    pub others : List (WorkerEnd S G)
    pub parts : ends ≡ head ∷ others
    pub ended : EndsFirst mem gate old meaning first seat head
    pub worked : AllThree (EndsWork mem gate old meaning) threads seats others

  abbrev pub EndsCrew : Crew T S → List (WorkerEnd S G) → Type 0
  EndsCrew crew ends = IsCrew crew.first crew.seat crew.threads.items crew.seats.items ends

  -- The end of the first thread, and the seats of others, none of which can be spawned.
  pub record IsAlone (first : T) (seat : S) (seats : List S) (ends : List (WorkerEnd S G)) : Type 0 where
    pub head : WorkerEnd S G
    pub parts : ends ≡ head ∷ idle_ends old seats
    pub ended : EndsFirst mem gate old meaning first seat head

  abbrev pub EndsAlone : Crew T S → List (WorkerEnd S G) → Type 0
  EndsAlone crew ends = IsAlone crew.first crew.seat crew.seats.items ends

  -- The ends of a crew, or of a first thread beside which there's none.
  abbrev pub EndsAll : Crew T S → List (WorkerEnd S G) → Type 0
  EndsAll crew ends = EndsCrew crew ends ⊎ ((crew.threads.items ≡ []) × EndsAlone crew ends)

-- So many threads can be spawned: all that a run can have, or none, where the program imports no function.
abbrev pub CountsSpawnable : Meaning → ℕ → Type 0
CountsSpawnable m count = (count ≡ MOST_SPAWNED) ⊎ ((count ≡ 0) × (Program.imported m.program ≡ 0))
