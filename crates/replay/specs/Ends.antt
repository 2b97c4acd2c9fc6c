-- The lines behind a record's log, where a walk along the log came to.
use Rattle.std.specs.Prelude.{ℕ, ◌≡◌, ◌<◌, ◌≤◌, List, length, Option, Some, None}
use Rattle.types.specs.declared.event.Answer.{Answer}
use Rattle.types.specs.declared.outcome.Outcome.{Outcome}
use Rattle.types.specs.declared.outcome.ThreadReport.{ThreadReport}
use Rattle.shared_memory.specs.Memory.{pages}
use Rattle.shared_memory.specs.WaitQueue.{WaitQueue}
use Rattle.schedule.specs.System as systems
use Rattle.schedule.specs.Histories.{Place}
use Rattle.schedule_threads.specs.Shared.{Shared}
use Rattle.interp_trait.specs.Turns.{Running, Meaning}
use Rattle.replay_walk.specs.declared.stage.Stage.{Stage}
use Rattle.replay_text.specs.declared.parts.RecordParts.{RecordParts}
use Rattle.replay_rules.specs.Recorded.{HasLeft, LineAgrees}
use Rattle.replay_walk.specs.Standing.{Standing, IsStanding}

-- A walk stands where its log ends, and each of its threads might spend so many units.
pub record Ends {S : Type 0} (meaning : S → Meaning)
    (s : Standing) (threads : List S) (queue : WaitQueue) (begun : ℕ) (ends : List (Option Outcome)) (units : ℕ)
    : Type 0 where
  pub standing : IsStanding meaning s threads queue begun ends
  pub budget : s.budget ≡ units

-- So it stands by its stage.
abbrev pub StageEnds : {S : Type 0} → (S → Meaning) → Standing → List S → Stage → ℕ → Type 0
StageEnds meaning s threads stage units = Ends meaning s threads stage.queue stage.started stage.ends units

module _ (r : RecordParts) (z : systems.State Shared Running) (places : ℕ → Place Answer) where
  -- Each end line agrees, and so does the pages line behind them.
  abbrev pub AllAgree : Type 0
  AllAgree = (m : ℕ) → m ≤ length r.ends → LineAgrees r z places m

  -- The line at k is the first that doesn't agree.
  pub record IsFirstWrong (k : ℕ) : Type 0 where
    pub below : k ≤ length r.ends
    pub before : (m : ℕ) → m < k → LineAgrees r z places m
    pub wrong : LineAgrees r z places k → ⊥

  -- What an answer says of the lines.
  abbrev pub IsVerdict : Option ℕ → Type 0
  IsVerdict None = AllAgree
  IsVerdict (Some k) = IsFirstWrong k

-- The memory has the record's pages, and no thread was started that has no end line.
abbrev pub IsPagesLine : RecordParts → ℕ → ℕ → Type 0
IsPagesLine r held started = (held ≡ r.pages) × (started ≤ length r.ends)

module _ {S : Type 0} (meaning : S → Meaning) where
  -- Wherever a walk with these threads ends, an answer is right that names the first line that doesn't agree.
  abbrev pub NamesFirstWrong : List S → Stage → ℕ → RecordParts → Option ℕ → Type 0
  NamesFirstWrong threads stage held r o = (s : Standing) → StageEnds meaning s threads stage r.fuel
      → held ≡ pages s.memory → IsVerdict r s.state s.places o

  -- There the thread of a number has left as a report says; or it hasn't.
  abbrev pub LeftAs : List S → Stage → ℕ → ThreadReport → Type 0
  LeftAs threads stage number report = (s : Standing) (r : RecordParts) → StageEnds meaning s threads stage r.fuel
      → HasLeft r s.state s.places number report

  abbrev pub NotLeftAs : List S → Stage → ℕ → ThreadReport → Type 0
  NotLeftAs threads stage number report = (s : Standing) (r : RecordParts) → StageEnds meaning s threads stage r.fuel
      → HasLeft r s.state s.places number report → ⊥
