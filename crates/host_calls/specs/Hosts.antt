-- What a host's calls answer: of a module by its parts, and of the one that bytes spell.
use Rattle.std.specs.Prelude.{ℕ, ◌≡◌, ◌≤◌, List, length, None, false}
use Rattle.types.specs.declared.value.Value.{Value}
use Rattle.types.specs.declared.parts.Parts.{Parts}
use Rattle.types.specs.declared.limits.TheConstants.{MOST_FUEL, MOST_LIMIT}
use Rattle.binary_wire.specs.declared.fault.ReadFault.TheVariants as reads
use Rattle.binary.specs.Grammar.{IsModuleText}
use Rattle.validate_typing.specs.declared.fault.ValidFault.TheVariants as validity
use Rattle.validate_typing.specs.Validity.{IsValid}
use Rattle.replay_text.specs.Breaks as records
use Rattle.replay_text.specs.Text.{IsRecord, record_text}
use Rattle.replay_text.specs.declared.parts.RecordParts.{RecordParts}
use Rattle.spawn_host.specs.Faults.{IsCallFault}
use Rattle.spawn_host.specs.Requests.{Requested}
use Rattle.spawn_host.specs.declared.end.EndState.{EndState}
use Rattle.replay.specs.Runs as runs
use Rattle.replay.specs.Runs.{IsRunOf}
use Rattle.selection.specs.declared.sought.Find.TheVariants as finds
use Rattle.selection.specs.declared.sought.Sought.{Sought}
use Rattle.report_jobs.specs.Jobs.{IsRefused}
use Rattle.report_jobs.specs.declared.loading.ModuleRefusal.{ModuleRefusal}
use Rattle.report_jobs.specs.declared.loading.ModuleRefusal.TheVariants as refusals
use Rattle.search_endings.specs.Endings.{Ending}
use Rattle.search_reach.specs.Found.{AreListed}
use Rattle.search_reach.specs.declared.ending.Ended.{Ended}
use Rattle.search_reach.specs.declared.follows.Wish.TheVariants.{GoOn}
use Rattle.search_finds.specs.Drawing.{IsRunOfNumber}
use Rattle.search_scheduled.specs.declared.running.MadeRun.{MadeRun}
use Rattle.search_modules.specs.Endings.{claims_of}
use Rattle.search_modules.specs.Liveness.{CountsStates, SaysWhereAll}
use Rattle.host_calls.specs.declared.fault.HostFault.{HostFault}
use Rattle.host_calls.specs.declared.fault.HostFault.TheVariants as faults
use Rattle.host_calls.specs.declared.plan.Plan.{Plan}

-- The numbers of a plan are in their ranges.
abbrev pub IsPlanInRange : Plan → Type 0
IsPlanInRange plan = (plan.fuel ≤ MOST_FUEL) × (1 ≤ plan.limit) × (plan.limit ≤ MOST_LIMIT)

-- The search whose run of that number is wanted. Nothing is looked for.
abbrev pub sought_by : Plan → Sought
sought_by plan = record {
  way = plan.way;
  seed = plan.seed;
  from = plan.run;
  runs = 1;
  limit = plan.limit;
  dump = 0;
  target = record { find = finds.Nothing; expect = None };
  stops = false;
}

-- Out of memory is no fault of the module.
abbrev pub fault_of_refusal : ModuleRefusal → HostFault
fault_of_refusal (refusals.Read reads.OutOfMemory) = faults.NoMemory
fault_of_refusal (refusals.Validity validity.OutOfMemory) = faults.NoMemory
fault_of_refusal refusal = faults.Module refusal

-- The status of a fault: 2 of a module, 3 of a call, 4 of a record, 5 where memory was refused.
abbrev pub status_of_fault : HostFault → ℕ
status_of_fault (faults.Module refusal) = 2
status_of_fault (faults.Call fault) = 3
status_of_fault faults.Range = 3
status_of_fault (faults.Record fault) = 4
status_of_fault (faults.Replay fault) = 4
status_of_fault faults.NoMemory = 5

-- The bytes spell a valid module.
pub record Spells (bytes : List ℕ) (m : Parts) : Type 0 where
  pub text : IsModuleText bytes m
  pub valid : IsValid m

-- It has so many functions of its own.
abbrev pub HasFunctions : List ℕ → ℕ → Type 0
HasFunctions bytes count = (m : Parts) × Spells bytes m × (count ≡ length m.functions)

-- What is requested is this call of the module.
pub record IsRequested (m : Parts) (name : List ℕ) (args : List Value) (units : ℕ) (q : Requested) : Type 0 where
  pub parts_are : q.parts ≡ m
  pub name_is : q.name ≡ name
  pub args_are : q.args ≡ args
  pub fuel_is : q.fuel ≡ units

-- It is the run of the plan's number, of that call.
pub record IsPlannedRun (m : Parts) (name : List ℕ) (args : List Value) (plan : Plan) (made : MadeRun) : Type 0 where
  pub requested : Requested
  pub asked : IsRequested m name args plan.fuel requested
  pub run : IsRunOfNumber requested (sought_by plan) plan.run made

-- The bytes of a record spell one that is of a run of the module, which left this.
pub record IsSavedRun (m : Parts) (saved : List ℕ) (end : EndState) : Type 0 where
  pub made : RecordParts
  pub ranges : IsRecord made
  pub saved_is : saved ≡ record_text made
  pub run : IsRunOf m made end

-- The endings of a call are listed, with what is said of them.
pub record AreEndings (m : Parts) (name : List ℕ) (args : List Value) (most dump : ℕ) (all : Ended Ending) : Type 0 where
  pub requested : Requested
  pub asked : IsRequested m name args 0 requested
  pub listed : AreListed (claims_of requested dump) most GoOn all
  pub count : CountsStates requested all.states
  pub live : SaysWhereAll requested dump all.states all.verdict all.liveness

-- The same of the valid module that the bytes spell.
abbrev pub IsRunBy : List ℕ → List ℕ → List Value → Plan → MadeRun → Type 0
IsRunBy bytes name args plan made = (m : Parts) × Spells bytes m × IsPlannedRun m name args plan made

abbrev pub IsReplayOf : List ℕ → List ℕ → EndState → Type 0
IsReplayOf bytes saved end = (m : Parts) × Spells bytes m × IsSavedRun m saved end

abbrev pub HasEndings : List ℕ → List ℕ → List Value → ℕ → ℕ → Ended Ending → Type 0
HasEndings bytes name args most dump all = (m : Parts) × Spells bytes m × AreEndings m name args most dump all

-- The fault is of a call that the module hasn't.
abbrev pub IsNoCall : Parts → List ℕ → List Value → HostFault → Type 0
IsNoCall m name args (faults.Call fault) = IsCallFault m name args fault
IsNoCall m name args fault = ⊥

-- What the fault of a call of a module says: where memory was refused, nothing.
abbrev pub IsRefusedCall : Parts → List ℕ → List Value → HostFault → Type 0
IsRefusedCall m name args faults.NoMemory = Unit {0}
IsRefusedCall m name args fault = IsNoCall m name args fault

-- What that of a run says.
abbrev pub IsRefusedRun : Parts → List ℕ → List Value → Plan → HostFault → Type 0
IsRefusedRun m name args plan faults.Range = IsPlanInRange plan → ⊥
IsRefusedRun m name args plan fault = IsRefusedCall m name args fault

-- What that of a replay says.
abbrev pub IsRefusedReplay : Parts → List ℕ → HostFault → Type 0
IsRefusedReplay m saved (faults.Record fault) = records.IsFaultOf saved fault
IsRefusedReplay m saved (faults.Replay fault) =
    (r : RecordParts) × IsRecord r × (saved ≡ record_text r) × runs.IsReplayFault m r fault
IsRefusedReplay m saved faults.NoMemory = Unit {0}
IsRefusedReplay m saved fault = ⊥

-- What the fault of a module says.
abbrev pub IsModuleFault : List ℕ → HostFault → Type 0
IsModuleFault bytes (faults.Module refusal) = IsRefused bytes refusal
IsModuleFault bytes faults.NoMemory = Unit {0}
IsModuleFault bytes fault = ⊥

-- What that of a call says: of the module, or of the call.
abbrev pub IsCallFaultOf : List ℕ → List ℕ → List Value → HostFault → Type 0
IsCallFaultOf bytes name args (faults.Call fault) = (m : Parts) × Spells bytes m × IsCallFault m name args fault
IsCallFaultOf bytes name args fault = IsModuleFault bytes fault

-- What that of a run says.
abbrev pub IsFaultOf : List ℕ → List ℕ → List Value → Plan → HostFault → Type 0
IsFaultOf bytes name args plan faults.Range = IsPlanInRange plan → ⊥
IsFaultOf bytes name args plan fault = IsCallFaultOf bytes name args fault

-- What that of a replay says.
abbrev pub IsReplayFault : List ℕ → List ℕ → HostFault → Type 0
IsReplayFault bytes saved (faults.Record fault) = records.IsFaultOf saved fault
IsReplayFault bytes saved (faults.Replay fault) =
    (m : Parts) × Spells bytes m × IsRefusedReplay m saved (faults.Replay fault)
IsReplayFault bytes saved fault = IsModuleFault bytes fault
