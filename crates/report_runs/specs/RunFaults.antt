-- Why there is no run over a memory of its own. The memory of a valid module can always be opened where there is room
-- for it; so what the caller gets wrong is told as such, whatever room there is.
use Rattle.std.specs.Prelude.{ℕ, ◌≡◌, ◌≤◌, List}
use Rattle.types.specs.declared.value.Value.{Value}
use Rattle.types.specs.declared.parts.Parts.{Parts}
use Rattle.types.specs.declared.limits.TheConstants.{MOST_LIMIT}
use Rattle.shared_memory_sequential.specs.declared.fault.OpenFault.TheVariants as open_faults
use Rattle.spawn_host.specs.Entries.{Takes}
use Rattle.spawn_host.specs.Faults.{IsFaultOf, IsStartFault}
use Rattle.spawn_host.specs.Requests.{Requested}
use Rattle.spawn_host.specs.declared.call.Call.{Call}
use Rattle.spawn_host.specs.declared.running.RunFault.TheVariants as run_faults
use Rattle.report_runs.specs.declared.recording.RecordRunFault.{RecordRunFault}
use Rattle.report_runs.specs.declared.recording.RecordRunFault.TheVariants as faults

-- A log takes this many entries at least and at most.
abbrev pub IsLogLimit : ℕ → Type 0
IsLogLimit limit = (1 ≤ limit) × (limit ≤ MOST_LIMIT)

-- Over a memory that records: the limit of its log is out of its range; or it isn't, and the call can't be made; or it
-- can, and the system had too little memory left, or started no further thread.
abbrev pub IsRecordingFault : Parts → List ℕ → List Value → ℕ → RecordRunFault → Type 0
IsRecordingFault m name args limit (faults.Open open_faults.PastLimit) = IsLogLimit limit → ⊥
IsRecordingFault m name args limit (faults.Open open_faults.NoMemory) = IsLogLimit limit × Takes m name args
IsRecordingFault m name args limit (faults.Run fault) = IsLogLimit limit × IsFaultOf m name args fault
IsRecordingFault m name args limit faults.NoMemory = IsLogLimit limit × Takes m name args

-- Over the row of words, which has no log.
abbrev pub IsWordsFault : Parts → List ℕ → List Value → RecordRunFault → Type 0
IsWordsFault m name args (faults.Open open_faults.PastLimit) = ⊥
IsWordsFault m name args (faults.Open open_faults.NoMemory) = Takes m name args
IsWordsFault m name args (faults.Run fault) = IsFaultOf m name args fault
IsWordsFault m name args faults.NoMemory = Takes m name args

-- The limit of a log is out of its range, and the fault says so.
abbrev pub IsPastLimit : ℕ → RecordRunFault → Type 0
IsPastLimit limit fault = (IsLogLimit limit → ⊥) × (fault ≡ faults.Open open_faults.PastLimit)

-- The same of a call.
abbrev pub IsRecordingFaultOf : Parts → Call → ℕ → RecordRunFault → Type 0
IsRecordingFaultOf m call = IsRecordingFault m call.name.now call.args.now

abbrev pub IsWordsFaultOf : Parts → Call → RecordRunFault → Type 0
IsWordsFaultOf m call = IsWordsFault m call.name.now call.args.now

-- The same of a call that can be made: what is wrong is the limit, or the system's.
abbrev pub IsRecordingFaultOfRequest : Requested → ℕ → RecordRunFault → Type 0
IsRecordingFaultOfRequest r limit (faults.Open open_faults.PastLimit) = IsLogLimit limit → ⊥
IsRecordingFaultOfRequest r limit (faults.Open open_faults.NoMemory) = IsLogLimit limit
IsRecordingFaultOfRequest r limit (faults.Run (run_faults.Call fault)) = ⊥
IsRecordingFaultOfRequest r limit (faults.Run (run_faults.Start fault)) = IsLogLimit limit × IsStartFault r fault
IsRecordingFaultOfRequest r limit faults.NoMemory = IsLogLimit limit

abbrev pub IsWordsFaultOfRequest : Requested → RecordRunFault → Type 0
IsWordsFaultOfRequest r (faults.Open open_faults.PastLimit) = ⊥
IsWordsFaultOfRequest r (faults.Open open_faults.NoMemory) = Unit {0}
IsWordsFaultOfRequest r (faults.Run (run_faults.Call fault)) = ⊥
IsWordsFaultOfRequest r (faults.Run (run_faults.Start fault)) = IsStartFault r fault
IsWordsFaultOfRequest r faults.NoMemory = Unit {0}
