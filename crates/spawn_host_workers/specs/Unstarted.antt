-- What is left of a run whose threads weren't started.
use Rattle.std.specs.Prelude.{◌≡◌, List, []}
use Rattle.shared_memory.specs.declared.memory.SharedMemory.{Ghosts}
use Rattle.waiters_desk.specs.Calls.{Leaves}
use Rattle.waiters_desk.specs.Seats.{SeatLeaves}
use Rattle.spawn_host_workers.specs.declared.report.StartFault.{StartFault}
use Rattle.spawn_host_workers.specs.declared.report.StartFault.TheVariants as faults
use Rattle.spawn_host_workers.specs.declared.report.Unstarted.{Unstarted}
use Rattle.spawn_host_workers.specs.declared.report.Unstarted.TheVariants.{NoMemory, NoThread}

abbrev pub fault_of : {S : Type 0} → Unstarted S → StartFault
fault_of (NoMemory seats) = faults.NoMemory
fault_of (NoThread seat) = faults.NoThread

-- A seat's thread has left the run and entered nothing else since.
pub record LeavesUnrun {M S : Type 0} (m : Ghosts M S) (memory : M) (before after : S) : Type 0 where
  pub name_is : m.name after ≡ m.name before
  pub left : SeatLeaves m memory before after

-- All seats are here, as they came: none has seen an entry that it hadn't.
abbrev pub IsAsTheyCame : {S : Type 0} → List S → Unstarted S → Type 0
IsAsTheyCame seats (NoMemory back) = back.items ≡ seats
IsAsTheyCame seats (NoThread seat) = ⊥

-- Where memory was refused all seats are here as they came. Where a thread was refused thread 0's seat is here: all
-- that its thread ever entered is that it leaves.
abbrev pub IsUnstarted : {M S : Type 0} → Ghosts M S → M → List S → Unstarted S → Type 0
IsUnstarted m memory seats (NoMemory back) = back.items ≡ seats
IsUnstarted m memory seats (NoThread seat) =
    (m.name seat ≡ 0) × Leaves m.opening (m.limit memory) 0 [] (m.seen seat)
