-- The threads that runs didn't start, and the runs that begin with them.
use Rattle.std.specs.Prelude.{ℕ, ◌≡◌, List, [], Option, IfSome, OnOk}
use Rattle.std.specs.Global.{Vec}
use Rattle.std.specs.List.{All}
use Rattle.std.specs.declared.result.Result.{Result}
use Rattle.types.specs.declared.parts.Parts.{Parts}
use Rattle.validate_typing.specs.Image.{opening_image}
use Rattle.interp_machine.specs.Program.{program_of}
use Rattle.interp_trait.specs.Turns.{Meaning, spawn_types}
use Rattle.interp.specs.Threads.{meaning_in}
use Rattle.interp.specs.declared.thread.Thread.{Thread}
use Rattle.spawn_host.specs.Entries.{StartsThreads}
use Rattle.spawn_host.specs.Requests.{Requested}
use Rattle.replay_text.specs.declared.parts.RecordParts.{RecordParts}
use Rattle.replay_walk.specs.Walked.{Run, start}
use Rattle.replay.specs.Runs.{BeginsBy, start_of_record}
use Rattle.replay.specs.Threads.{IsWorker, AreSpares}
use Rattle.search_scheduled.specs.declared.course.Course.{Course}
use Rattle.search_scheduled.specs.declared.threads.Spares.{Spares}
use Rattle.search_scheduled.specs.Courses.{CameAlong}
use Rattle.search_scheduled.specs.Headers.{IsOfRequest}

module _ {T : Type 0} (meaning : T → Meaning) where
  -- A run didn't start it: it can still be spawned in that run.
  pub record IsUnused (run : Run) (thread : T) : Type 0 where
    pub program_is : (meaning thread).program ≡ run.program
    pub fuel_is : (meaning thread).fuel ≡ run.budget
    pub begins_so : (meaning thread).begins spawn_types run.worker

  -- A course before its first turn, on a run that begins as the record's.
  pub record HasBegun (m : Parts) (r : RecordParts) (c : Course T) : Type 0 where
    pub beginning : BeginsBy m r
    pub run : Run
    pub same : start run ≡ start_of_record m r beginning
    pub came : CameAlong meaning run c
    pub log : c.log.items ≡ []
    pub most : run.threads ≡ r.threads
    pub budget : run.budget ≡ r.fuel
    pub limit : run.limit ≡ r.limit
    pub program : run.program ≡ program_of m
    pub worker : StartsThreads m → IsWorker m run.worker

  -- The same of each record with the header of what is requested.
  abbrev pub HasBegunFor : Requested → ℕ → Course T → Type 0
  HasBegunFor q limit c = (r : RecordParts) → IsOfRequest q limit r → HasBegun q.parts r c

  -- Of each run that a course is on, these threads weren't started.
  abbrev pub LeavesUnused : Course T → List T → Type 0
  LeavesUnused c unused = (run : Run) → CameAlong meaning run c → All (IsUnused run) unused

-- What was kept are the bytes of the module's memory before the first instruction.
abbrev pub HoldsImage : Parts → Option (Vec ℕ) → Type 0
HoldsImage m kept = IfSome kept (λ image. image.items ≡ opening_image m)

-- Spares for the runs of a module with this budget.
pub record HoldsSpares (m : Parts) (budget : ℕ) (spares : Spares) : Type 0 where
  pub threads : AreSpares meaning_in m budget spares.threads.items
  pub image : HoldsImage m spares.image

-- Threads that are spares where the module can start threads were put behind those that were there, unless memory was
-- refused.
abbrev pub TakesBack : {A E : Type 0} → Parts → Spares → List Thread → Spares → Result A E → Type 0
TakesBack m before unused after o = (budget : ℕ) → HoldsSpares m budget before
    → (StartsThreads m → AreSpares meaning_in m budget unused) → OnOk o (HoldsSpares m budget after)
