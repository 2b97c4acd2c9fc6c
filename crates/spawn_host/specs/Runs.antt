-- What a run of a module gives.
use Rattle.std.specs.Prelude.{ℕ, ◌≡◌, ◌+◌, ◌<◌, Bool, List, [], ◌∷◌, length, map, Option, Some, slice_get}
use Rattle.std.specs.Prelude.{slice_index_or}
use Rattle.types.specs.declared.value.Value.{Value}
use Rattle.types.specs.declared.value.Value.TheVariants as values
use Rattle.types.specs.declared.parts.FuncType.{FuncType}
use Rattle.types.specs.declared.parts.Body.{Body}
use Rattle.types.specs.declared.parts.Parts.{Parts}
use Rattle.types.specs.declared.event.Entry.{Entry}
use Rattle.types.specs.declared.outcome.Outcome.{Outcome}
use Rattle.types.specs.declared.outcome.ThreadReport.{ThreadReport}
use Rattle.types.specs.Values.{type_of}
use Rattle.types.specs.declared.limits.TheConstants.{MOST_PAGES, SEATS}
use Rattle.validate_typing.specs.Image.{opening_image, pages_max_of}
use Rattle.shared_memory.specs.Memory.{Memory}
use Rattle.shared_memory.specs.WaitQueue.{WaitQueue}
use Rattle.shared_memory.specs.History.{queue_after}
use Rattle.interp_machine.specs.Program.{program_of}
use Rattle.interp_machine.specs.State.{State, At}
use Rattle.interp.specs.Starts.{start_of}
use Rattle.schedule_runs.specs.Runs.{Start, RanTogether}
use Rattle.schedule_runs.specs.Theorem.{IsOneRun}
use Rattle.spawn_host_workers.specs.OverMemory.{OverMemory}
use Rattle.spawn_host.specs.Entries.{Exports, StartsThreads, CallsThreadStart}
use Rattle.spawn_host.specs.Requests.{Requested}

-- The memory of a module before the first instruction, where one without a maximum may have so many pages.
abbrev pub opening_within : ℕ → Parts → Memory
opening_within most m = record { bytes = opening_image m; max = pages_max_of most m }

-- In a run that is 256.
abbrev pub opening_memory : Parts → Memory
opening_memory m = opening_within MOST_PAGES m

-- What the threads of a run start with: thread 0 calls a function of this type and with this body, with the arguments.
abbrev pub start_with : Parts → FuncType → Body → List Value → (ℕ → ℕ → State) → ℕ → Start
start_with m t b args spawned fuel = record {
  program = program_of m;
  main = At (start_of m t b args);
  spawned = spawned;
  fuel = fuel;
  opening = opening_memory m;
}

-- A report tells how a thread ended, and how many units of its budget it spent.
pub record Tells (report : ThreadReport) (fuel : ℕ) (outcome : Outcome) (left : ℕ) : Type 0 where
  pub outcome_is : report.outcome ≡ outcome
  pub budget : report.spent + left ≡ fuel

-- What the threads of a run begin with: thread 0 with a call of the function that is exported by the name, with the
-- arguments, and a spawned thread with one of the function for that. Where the module can start none, a spawned thread
-- would call what thread 0 does.
pub record Beginning (m : Parts) (entry : List ℕ) (args : List Value) : Type 0 where
  pub own : ℕ
  pub func_type : FuncType
  pub body : Body
  pub exports : Exports m entry own func_type body
  pub fit : map type_of args ≡ func_type.params
  pub spawned : ℕ → ℕ → State
  pub calls : StartsThreads m → CallsThreadStart m spawned
  pub idle : (StartsThreads m → ⊥) → (n arg : ℕ)
      → spawned n arg ≡ At (start_of m func_type body (values.I32 n ∷ values.I32 arg ∷ []))

abbrev pub start_by : (m : Parts) (entry : List ℕ) (args : List Value) → ℕ → Beginning m entry args → Start
start_by m entry args fuel b = start_with m b.func_type b.body args b.spawned fuel

-- The reports are of thread 0 and of the threads that were spawned in the history, in order of their numbers. The
-- threads ran together in that history, and so it is the history of one run: one thread that steps them all makes it,
-- with the same memory and ends.
pub record IsRunHistory (m : Parts) (entry : List ℕ) (args : List Value) (fuel : ℕ) (loses : Bool) (limit : Option ℕ)
    (threads : List ThreadReport) (history : List Entry) : Type 0 where
  pub beginning : Beginning m entry args
  pub count : length threads ≡ length (WaitQueue.args (queue_after history)) + 1
  pub outcomes : ℕ → Outcome
  pub lefts : ℕ → ℕ
  pub reports : (n : ℕ) (report : ThreadReport) → slice_get threads n ≡ Some report
      → Tells report fuel (outcomes n) (lefts n)
  pub together : RanTogether (start_by m entry args fuel beginning) loses limit history outcomes lefts
  pub one : IsOneRun (start_by m entry args fuel beginning) loses limit history outcomes lefts

-- All 65 seats have seen one history, which is that of the run.
pub record IsRun {S : Type 0} (m : Parts) (entry : List ℕ) (args : List Value) (fuel : ℕ) (mem : OverMemory S)
    (threads : List ThreadReport) (seats : List S) : Type 0 where
  pub history : List Entry
  pub is_history : IsRunHistory m entry args fuel mem.loses mem.limit threads history
  pub len : length seats ≡ SEATS
  pub names : (k : ℕ) (d : S) → k < SEATS → mem.name (slice_index_or seats k d) ≡ k
  pub seen_by : (k : ℕ) (d : S) → k < SEATS → mem.seen (slice_index_or seats k d) ≡ history

-- The same of what is requested.
abbrev pub IsRunOfRequest : {S : Type 0} → Requested → OverMemory S → List ThreadReport → List S → Type 0
IsRunOfRequest r mem threads seats = IsRun r.parts r.name r.args r.fuel mem threads seats
