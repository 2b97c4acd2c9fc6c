-- What a watch sees of a replay.
use Rattle.std.specs.Prelude.{ℕ, ◌≡◌, ◌+◌, ◌⊎◌, List, [], Result, Ok, Err}
use Rattle.types.specs.declared.parts.Parts.{Parts}
use Rattle.shared_memory.specs.Memory.{Memory}
use Rattle.interp_trait.specs.Turns.{Meaning}
use Rattle.interp.specs.declared.thread.Thread.{Thread}
use Rattle.interp.specs.Threads.{meaning_in}
use Rattle.spawn_host.specs.declared.end.EndState.{EndState}
use Rattle.replay_text.specs.Versions.{header_count}
use Rattle.replay_text.specs.declared.parts.RecordParts.{RecordParts}
use Rattle.replay_walk.specs.declared.walk.Walk.{Walk}
use Rattle.replay_walk.specs.Seen.{Sight, SeesWhole, SeesUpTo}
use Rattle.replay_walk.specs.Walked.{Run, ComesAlong, WalkCame, start}
use Rattle.replay.specs.Runs.{BeginsBy, start_of_record, IsHeaderFault}
use Rattle.replay.specs.Walks.{IsReadyFor}
use Rattle.replay.specs.declared.fault.ReplayFault.{ReplayFault}
use Rattle.replay.specs.declared.fault.ReplayFault.TheVariants.{Line, EndLine, NoMemory}

module _ {T W : Type 0} (meaning : T → Meaning) (sees : W → Sight T → W → Type 0) where
  -- From this walk on it sees all of the record's log, and the walk that came along it; or the log up to the entry of this
  -- line.
  abbrev pub SeesAll : RecordParts → Walk T → W → W → Type 0
  SeesAll r first old new = (last : Walk T) × ComesAlong meaning first r.limit r.log last
      × SeesWhole meaning sees first r.limit r.log last old new

  abbrev pub SeesUntil : RecordParts → ℕ → Walk T → W → W → Type 0
  SeesUntil r line first old new =
      (k : ℕ) × (line ≡ header_count r.version + 1 + k) × SeesUpTo meaning sees first r.limit r.log k old new

  -- So it does, by what the walk came to.
  abbrev pub SeesFault : RecordParts → ReplayFault → Walk T → W → W → Type 0
  SeesFault r (Line line) first old new = SeesUntil r line first old new
  SeesFault r (EndLine line) first old new = SeesAll r first old new
  SeesFault r NoMemory first old new = ⊥

  abbrev pub SeesBy : {M : Type 0} → RecordParts → Result M ReplayFault → Walk T → W → W → Type 0
  SeesBy r (Ok memory) first old new = SeesAll r first old new
  SeesBy r (Err fault) first old new = SeesFault r fault first old new

  -- From a walk at the beginning of each run that begins with these threads and this memory.
  abbrev pub SeesWalk : {M : Type 0} → RecordParts → List T → Memory → Result M ReplayFault → W → W → Type 0
  SeesWalk r threads memory result old new = (first : Walk T)
      × ((run : Run) → IsReadyFor meaning run r threads memory → WalkCame meaning run [] first)
      × SeesBy r result first old new

-- The walk is at the beginning of the module's run by the record.
pub record StandsFirst (m : Parts) (r : RecordParts) (first : Walk Thread) : Type 0 where
  pub run : Run
  pub beginning : BeginsBy m r
  pub same : start run ≡ start_of_record m r beginning
  pub limit : run.limit ≡ r.limit
  pub came : WalkCame meaning_in run [] first

module _ {W : Type 0} (sees : W → Sight Thread → W → Type 0) where
  -- It sees all of the log of a record that is replayed, from the beginning on, and nothing of one that doesn't fit
  -- before its log, or where there was no memory.
  abbrev pub SeesRun : {M : Type 0} → Parts → RecordParts → Result M ReplayFault → W → W → Type 0
  SeesRun m r result old new =
      (first : Walk Thread) × StandsFirst m r first × SeesBy meaning_in sees r result first old new

  abbrev pub SeesRefused : Parts → RecordParts → ReplayFault → W → W → Type 0
  SeesRefused m r (Line line) old new =
      (IsHeaderFault m r line × (new ≡ old)) ⊎ SeesRun {M = Memory} m r (Err (Line line)) old new
  SeesRefused m r (EndLine line) old new = SeesRun {M = Memory} m r (Err (EndLine line)) old new
  SeesRefused m r NoMemory old new = new ≡ old

  abbrev pub SeesReplay : Parts → RecordParts → Result EndState ReplayFault → W → W → Type 0
  SeesReplay m r (Ok end) old new = SeesRun m r (Ok end) old new
  SeesReplay m r (Err fault) old new = SeesRefused m r fault old new
