-- What a walk along a record's log shows of the record, whatever its threads are.
use Rattle.std.specs.Prelude.{ℕ, ◌≡◌, ◌+◌, List, length}
use Rattle.shared_memory.specs.Memory.{Memory}
use Rattle.schedule_runs.specs.Runs.{Start}
use Rattle.interp_trait.specs.Turns.{Meaning}
use Rattle.replay_text.specs.Versions.{header_count}
use Rattle.replay_text.specs.declared.parts.RecordParts.{RecordParts}
use Rattle.replay_rules.specs.Recorded.{IsRecordedRun, IsFirstMisfit, IsFirstWrongEnd}
use Rattle.replay_walk.specs.Walked.{Run, IsReady, start}
use Rattle.replay.specs.declared.fault.ReplayFault.{ReplayFault}
use Rattle.replay.specs.declared.fault.ReplayFault.TheVariants.{Line, EndLine, NoMemory}

-- Threads and a memory with which a run begins that has the record's number of threads, budget and limit.
pub record IsReadyFor {T : Type 0} (meaning : T → Meaning)
    (run : Run) (r : RecordParts) (threads : List T) (memory : Memory) : Type 0 where
  pub ready : IsReady meaning run threads memory
  pub budget : run.budget ≡ r.fuel
  pub limit : run.limit ≡ r.limit
  pub most : run.threads ≡ r.threads

-- The line of the first entry that doesn't fit, or of the first wrong end.
abbrev pub IsWalkFault : Start → RecordParts → ReplayFault → Type 0
IsWalkFault b r (Line line) = (k : ℕ) × (line ≡ header_count r.version + 1 + k) × IsFirstMisfit b r k
IsWalkFault b r (EndLine line) = (k : ℕ) × (line ≡ header_count r.version + 1 + length r.log + k)
    × IsFirstWrongEnd b r k
IsWalkFault b r NoMemory = ⊥

module _ {T : Type 0} (meaning : T → Meaning) where
  -- Each run that begins with these threads and this memory is one that the record is of; or the fault is of each.
  abbrev pub ShowsRun : RecordParts → List T → Memory → Memory → Type 0
  ShowsRun r threads memory last = (run : Run) → IsReadyFor meaning run r threads memory
      → IsRecordedRun (start run) r last

  abbrev pub ShowsFault : RecordParts → List T → Memory → ReplayFault → Type 0
  ShowsFault r threads memory fault = (run : Run) → IsReadyFor meaning run r threads memory
      → IsWalkFault (start run) r fault
