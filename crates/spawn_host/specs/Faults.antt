-- Why there is no run.
use Rattle.std.specs.Prelude.{ℕ, ◌≡◌, List}
use Rattle.types.specs.declared.value.Value.{Value}
use Rattle.types.specs.declared.parts.Parts.{Parts}
use Rattle.shared_memory.specs.declared.memory.SharedMemory.{Ghosts}
use Rattle.spawn_host_workers.specs.Unstarted as starts
use Rattle.spawn_host_workers.specs.Unstarted.{IsUnstarted}
use Rattle.spawn_host_workers.specs.declared.report.Unstarted.{Unstarted}
use Rattle.spawn_host_workers.specs.declared.report.StartFault.{StartFault}
use Rattle.spawn_host_workers.specs.declared.report.StartFault.TheVariants.{NoMemory, NoThread}
use Rattle.spawn_host.specs.declared.request.CallFault.{CallFault}
use Rattle.spawn_host.specs.declared.request.CallFault.TheVariants.{UnknownExport, WrongArguments}
use Rattle.spawn_host.specs.declared.running.RunFault.{RunFault}
use Rattle.spawn_host.specs.declared.running.RunFault.TheVariants.{Call, Start}
use Rattle.spawn_host.specs.declared.running.Unrun.{Unrun}
use Rattle.spawn_host.specs.declared.running.Unrun.TheVariants as unrun
use Rattle.spawn_host.specs.Entries.{IsUnknown, Takes, Refuses, StartsThreads}
use Rattle.spawn_host.specs.Requests.{Requested}

-- The call can't be made: no function of the module itself is exported by the name, or one is, but the arguments don't
-- fit it.
abbrev pub IsCallFault : Parts → List ℕ → List Value → CallFault → Type 0
IsCallFault m name args UnknownExport = IsUnknown m name
IsCallFault m name args WrongArguments = Refuses m name args

-- The threads of a call that can be made weren't started: the system had too little memory left, or started no further
-- thread for a module that can start some.
abbrev pub IsStartFault : Requested → StartFault → Type 0
IsStartFault r NoMemory = Unit {0}
IsStartFault r NoThread = StartsThreads r.parts

-- The call can't be made; or it can, and its threads weren't started.
abbrev pub IsFaultOf : Parts → List ℕ → List Value → RunFault → Type 0
IsFaultOf m name args (Call fault) = IsCallFault m name args fault
IsFaultOf m name args (Start NoMemory) = Takes m name args
IsFaultOf m name args (Start NoThread) = Takes m name args × StartsThreads m

-- What is left of a run that there wasn't says why.
abbrev pub HasStartFault : {S : Type 0} → Requested → Unstarted S → Type 0
HasStartFault r unstarted = IsStartFault r (starts.fault_of unstarted)

abbrev pub fault_of : {S : Type 0} → Unrun S → RunFault
fault_of (unrun.Call fault seats) = Call fault
fault_of (unrun.Start unstarted) = Start (starts.fault_of unstarted)

-- The seats are as they came, or all that thread 0 ever entered is that it leaves.
abbrev pub IsUnrun : {M S : Type 0} → Ghosts M S → M → List S → Unrun S → Type 0
IsUnrun m memory seats (unrun.Call fault back) = back.items ≡ seats
IsUnrun m memory seats (unrun.Start unstarted) = IsUnstarted m memory seats unstarted

abbrev pub run_fault_number : RunFault → ℕ
run_fault_number (Start NoMemory) = 1
run_fault_number (Call UnknownExport) = 2
run_fault_number (Call WrongArguments) = 3
run_fault_number (Start NoThread) = 4
