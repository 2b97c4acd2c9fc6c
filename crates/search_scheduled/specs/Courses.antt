-- A walk with the log that it made.
use Rattle.std.specs.Prelude.{ℕ, ◌≡◌, ◌⊎◌, ◌<◌, List, [], ◌∷◌, ◌++◌, map, slice_index}
use Rattle.std.specs.Prelude.{Option, Some, None, All, Contains}
use Rattle.types.specs.declared.event.Answer.{Answer}
use Rattle.types.specs.declared.event.Entry.{Entry}
use Rattle.types.specs.declared.event.Event.TheVariants.{Told}
use Rattle.types.specs.declared.event.Reply.TheVariants.{Done}
use Rattle.types.specs.declared.limits.TheConstants.{MOST_THREADS}
use Rattle.shared_memory.specs.Memory.{Memory}
use Rattle.shared_memory.specs.WaitQueue.{answer_due}
use Rattle.interp_trait.specs.Turns.{Meaning}
use Rattle.spawn_host.specs.declared.end.EndState.{EndState}
use Rattle.replay_text.specs.declared.parts.RecordParts.{RecordParts}
use Rattle.replay_walk.specs.Standing.{MayBeTaken, HasGoneIfFree}
use Rattle.replay_walk.specs.declared.stage.Stage.{Stage}
use Rattle.replay_walk.specs.Walked.{Run, IsReady, WalkCame, start}
use Rattle.search_scheduled.specs.Headers.{Concludes}
use Rattle.search_scheduled.specs.Settled.{KeepsStage, TakesDue}
use Rattle.search_scheduled.specs.declared.course.Course.{Course}

-- Numbers in ascending order.
abbrev pub AreAscending : List ℕ → Type 0
AreAscending [] = Unit {0}
AreAscending (n ∷ ns) = All (λ m. n < m) ns × AreAscending ns

-- A thread takes an answer, by this entry.
abbrev pub IsAnswerBy : ℕ → Entry → Type 0
IsAnswerBy n e = (answer : Answer) × (e ≡ record { thread = n; event = Told answer; reply = Done })

-- Answers that threads take, in the order of their numbers.
pub record AreAnswers (answers : List Entry) : Type 0 where
  pub each : All (λ e. IsAnswerBy e.thread e) answers
  pub order : AreAscending (map (λ e. e.thread) answers)

-- To no thread an answer is due.
abbrev pub HasNoneDue : {S : Type 0} → Course S → Type 0
HasNoneDue c = (n : ℕ) → answer_due c.walk.stage.queue n ≡ None

module _ {S : Type 0} (meaning : S → Meaning) where
  -- Its walk came along its log, in a run with its budget and its limit.
  pub record CameAlong (r : Run) (c : Course S) : Type 0 where
    pub walk : WalkCame meaning r c.log.items c.walk
    pub budget : r.budget ≡ c.fuel
    pub limit : r.limit ≡ c.limit

  -- It is on some run, and on each that it was on.
  abbrev pub IsOnARun : Course S → Type 0
  IsOnARun c = (r : Run) × CameAlong r c

  abbrev pub StaysOnItsRuns : Course S → Course S → Type 0
  StaysOnItsRuns before after = (r : Run) → CameAlong r before → CameAlong r after

  -- Threads and a memory with which a run begins make a course at the beginning of that run.
  abbrev pub BeginsCourse : List S → Memory → ℕ → ℕ → Course S → Type 0
  BeginsCourse threads memory fuel limit c = (r : Run) → IsReady meaning r threads memory → r.threads ≡ MOST_THREADS
      → r.budget ≡ fuel → r.limit ≡ limit → CameAlong r c

  -- Each run that it is on, and that a header is of, ends so by its record.
  abbrev pub ConcludesRuns : Course S → RecordParts → RecordParts → EndState → Type 0
  ConcludesRuns c header record_is end = (r : Run) → CameAlong r c → r.threads ≡ header.threads
      → r.budget ≡ header.fuel → r.limit ≡ header.limit → Concludes (start r) record_is end

  -- These are the threads that can go on, in the order of their numbers: each may be taken, and each other one that was
  -- started has left, if it doesn't wait.
  pub record IsEachReady (stage : Stage) (ready : List ℕ) : Type 0 where
    pub order : AreAscending ready
    pub can : All (MayBeTaken meaning stage) ready
    pub others : (n : ℕ) → n < stage.started → n < MOST_THREADS → (Contains ready n → ⊥) → HasGoneIfFree meaning stage n

  -- Thread n takes the answer that is due to it, if one is.
  pub record HearsAt (n : ℕ) (before after : Course S) : Type 0 where
    pub runs : StaysOnItsRuns before after
    pub answers : List Entry
    pub own : (answers ≡ []) ⊎ ((e : Entry) × IsAnswerBy n e × (answers ≡ e ∷ []))
    pub log : after.log.items ≡ before.log.items ++ answers
    pub queue : TakesDue n before.walk.stage.queue after.walk.stage.queue

  -- All threads take the answers that are due to them.
  pub record Hears (before after : Course S) : Type 0 where
    pub runs : StaysOnItsRuns before after
    pub answers : List Entry
    pub taken : AreAnswers answers
    pub log : after.log.items ≡ before.log.items ++ answers
    pub none : HasNoneDue after

  -- Thread n makes an entry, and all take the answers that are due then.
  pub record GoesOn (n : ℕ) (e : Entry) (before after : Course S) : Type 0 where
    pub runs : StaysOnItsRuns before after
    pub thread : e.thread ≡ n
    pub answers : List Entry
    pub taken : AreAnswers answers
    pub log : after.log.items ≡ before.log.items ++ e ∷ answers
    pub none : HasNoneDue before → HasNoneDue after

  -- Thread n makes an entry. Only by a question the queue becomes another.
  pub record Steps (n : ℕ) (e : Entry) (before after : Course S) : Type 0 where
    pub runs : StaysOnItsRuns before after
    pub thread : e.thread ≡ n
    pub log : after.log.items ≡ before.log.items ++ e ∷ []
    pub stage : KeepsStage e.event before.walk.stage after.walk.stage

  module _ {Q : Type 0} (chooses : Q → List ℕ → Option ℕ → Q → Type 0) (hears : Q → Entry → Q → Type 0) where
    -- A strategy that is asked of the threads that can go on names one; that one goes on, and the strategy hears its
    -- entry.
    pub record IsNamed (before : Course S) (q : Q) (after : Course S) (q' : Q) : Type 0 where
      pub ready : List ℕ
      pub each : IsEachReady before.walk.stage ready
      pub place : ℕ
      pub asked : Q
      pub chosen : chooses q ready (Some place) asked
      pub entry : Entry
      pub goes : GoesOn (slice_index ready place) entry before after
      pub heard : hears asked entry q'

    -- So it went on, event by event.
    pub data IsLed (first : Course S) (q : Q) : Course S → Q → Type 0 where
      here : IsLed first q first q
      on : (c : Course S) (p : Q) (d : Course S) (r : Q) → IsLed first q c p → IsNamed c p d r → IsLed first q d r

    -- So it went on to where the strategy was asked of the threads that can go on. It named nobody; or it named one,
    -- and then it may give the run up.
    pub record IsGivenUp (may_end : Q → Type 0) (first : Course S) (q r : Q) : Type 0 where
      pub course : Course S
      pub before : Q
      pub led : IsLed first q course before
      pub ready : List ℕ
      pub each : IsEachReady course.walk.stage ready
      pub answer : Option ℕ
      pub chosen : chooses before ready answer r
      pub gives_up : (answer ≡ None) ⊎ may_end r
