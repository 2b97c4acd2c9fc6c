-- The threads of a run before their first turn, of which those that can be spawned may be left from other runs.
use Rattle.std.specs.Prelude.{ℕ, ◌≡◌, ◌+◌, ◌⊎◌, List, [], ◌∷◌, length}
use Rattle.std.specs.Global.{Vec}
use Rattle.std.specs.List.{All}
use Rattle.types.specs.declared.value.Value.{Value}
use Rattle.types.specs.declared.parts.FuncType.{FuncType}
use Rattle.types.specs.declared.parts.Body.{Body}
use Rattle.types.specs.declared.parts.Parts.{Parts}
use Rattle.types.specs.declared.limits.TheConstants.{MOST_SPAWNED}
use Rattle.interp_machine.specs.Config.{Config}
use Rattle.interp_machine.specs.Program.{program_of}
use Rattle.interp_trait.specs.Turns.{Meaning, spawn_types}
use Rattle.interp.specs.Starts.{start_of}
use Rattle.spawn_host.specs.Entries.{IsUnknown, Refuses, StartsThreads, IsThreadStart}
use Rattle.spawn_host.specs.Requests.{Requested}
use Rattle.spawn_host.specs.Threads.{IsFirst, BeginsRequest}
use Rattle.replay_text.specs.declared.parts.RecordParts.{RecordParts}
use Rattle.replay.specs.Runs.{invoke_line}
use Rattle.replay.specs.declared.fault.ReplayFault.{ReplayFault}
use Rattle.replay.specs.declared.fault.ReplayFault.TheVariants.{Line, EndLine, NoMemory}

-- The call that a record's header states, of a function of the module.
abbrev pub requested_by : Parts → RecordParts → Requested
requested_by m r = record { parts = m; name = r.invoke; args = r.args; fuel = r.fuel }

-- So a spawned thread of the module begins, by its arguments.
pub record IsWorker (m : Parts) (worker : List Value → Config) : Type 0 where
  pub own : ℕ
  pub func_type : FuncType
  pub body : Body
  pub is_start : IsThreadStart m own func_type body
  pub begins : worker ≡ start_of m func_type body

module _ {T : Type 0} (meaning : T → Meaning) where
  -- Thread 0 is about to make the record's call.
  abbrev pub MakesCallOf : Parts → RecordParts → T → Type 0
  MakesCallOf m r thread = IsFirst meaning m r.invoke r.args r.fuel thread

  -- A thread hasn't made a turn, and can be spawned in a run of the module with this budget.
  pub record IsSpare (m : Parts) (budget : ℕ) (thread : T) : Type 0 where
    pub program_is : (meaning thread).program ≡ program_of m
    pub fuel_is : (meaning thread).fuel ≡ budget
    pub worker : List Value → Config
    pub is_worker : IsWorker m worker
    pub begins_so : (meaning thread).begins spawn_types worker

  abbrev pub AreSpares : Parts → ℕ → List T → Type 0
  AreSpares m budget threads = All (IsSpare m budget) threads

  -- Those that a run may spawn: 63 spares where the module can start threads, and else none.
  abbrev pub AreOthers : Parts → ℕ → List T → Type 0
  AreOthers m budget others =
      (StartsThreads m × (length others ≡ MOST_SPAWNED) × AreSpares m budget others)
      ⊎ ((StartsThreads m → ⊥) × (others ≡ []))

  -- Thread 0 is about to make the call, and behind it are the others.
  pub record AreThreadsFor (q : Requested) (threads : List T) : Type 0 where
    pub first : T
    pub others : List T
    pub list : threads ≡ first ∷ others
    pub is_first : BeginsRequest meaning q first
    pub are_others : AreOthers q.parts q.fuel others

  -- The same of the record's call.
  abbrev pub AreThreadsOf : Parts → RecordParts → Vec T → Type 0
  AreThreadsOf m r threads = AreThreadsFor (requested_by m r) threads.items

-- There is no such call: the record's line of the name doesn't fit, or that of the arguments behind it.
abbrev pub OfCall : Parts → RecordParts → ReplayFault → Type 0
OfCall m r (Line line) =
    ((line ≡ invoke_line r.version) × IsUnknown m r.invoke)
    ⊎ ((line ≡ invoke_line r.version + 1) × Refuses m r.invoke r.args)
OfCall m r (EndLine line) = ⊥
OfCall m r NoMemory = Unit {0}
