-- A walk of which one thread has made its turns of its own.
use Rattle.std.specs.Prelude.{ℕ, ◌≡◌, ◌≢◌, List, length, Option, Some, None}
use Rattle.types.specs.declared.event.Event.{Event}
use Rattle.types.specs.declared.event.Event.TheVariants as events
use Rattle.types.specs.declared.event.Question.TheVariants.{Leave}
use Rattle.types.specs.declared.event.Reply.{Reply}
use Rattle.types.specs.declared.event.Reply.TheVariants.{Done}
use Rattle.types.specs.declared.event.Answer.{Answer}
use Rattle.types.specs.declared.event.Entry.{Entry}
use Rattle.types.specs.declared.outcome.Outcome.{Outcome}
use Rattle.shared_memory.specs.Memory.{Memory}
use Rattle.shared_memory.specs.WaitQueue.{WaitQueue, answer_due}
use Rattle.schedule.specs.System.{Want.Calls}
use Rattle.schedule_threads.specs.Shared.{act_of}
use Rattle.interp_trait.specs.Turns.{Running, Meaning, IsHere, left_of, outcome_of, wants_of}
use Rattle.interp_trait.specs.declared.turn.Turn.{Turn}
use Rattle.replay_rules.specs.Walk.{Settles, CanMake}
use Rattle.replay_walk.specs.Standing.{Standing, Says, Hands, StageSettles, StageStands, made_by, system_at}
use Rattle.replay_walk.specs.Walked.{HasThreads, TakesAnswer, WalkStands, WalkTakes, rules_of}
use Rattle.replay_walk.specs.declared.stage.Stage.{Stage}
use Rattle.replay_walk.specs.declared.walk.Walk.{Walk}

module _ {S : Type 0} (meaning : S → Meaning) where
  -- Thread n came by turns of its own to one that wants something else, and a turn says what. All others stand as
  -- before.
  pub record SettlesOn (s : Standing) (n : ℕ) (turn : Turn) (w : Walk S) : Type 0 where
    pub thread : Running
    pub on : StageSettles meaning s w.threads.items w.stage n thread
    pub settles : Settles (system_at s) (s.state.threads n) thread
    pub says : Says s.program thread turn

  -- Behind so many entries it may leave with this outcome: it has ended so, or it finds the log full.
  pub record MayLeave (s : Standing) (limit count n : ℕ) (outcome : Outcome) (w : Walk S) : Type 0 where
    pub settled : Running
    pub on : StageSettles meaning s w.threads.items w.stage n settled
    pub thread : Running
    pub can : CanMake (system_at s) (rules_of limit) s.state s.places count n (events.Ask Leave) Done thread
    pub ended : outcome_of thread ≡ Some outcome
    pub left : left_of thread ≡ left_of settled
    pub here : IsHere thread

  -- It hasn't ended, and wants this event.
  pub record WantsOn (s : Standing) (n : ℕ) (event : Event) (t : Running) (w : Walk S) : Type 0 where
    pub on : StageSettles meaning s w.threads.items w.stage n t
    pub memory : s.memory ≡ w.memory
    pub none : outcome_of t ≡ None
    pub wants : wants_of s.program t ≡ Calls event

  -- A thread has settled with a turn, wherever the walk stood.
  abbrev pub SettlesWhereGoing : ℕ → Walk S → Turn → Walk S → Type 0
  SettlesWhereGoing n before turn after = (s : Standing) → WalkStands meaning s before → SettlesOn s n turn after

  -- Somewhere a thread may leave with an outcome; wherever it may, it has done so, by an entry.
  abbrev pub IsToLeave : ℕ → Outcome → Walk S → Type 0
  IsToLeave n outcome w = (s : Standing) × (limit : ℕ) × (count : ℕ) × MayLeave s limit count n outcome w

  abbrev pub TakesLeave : ℕ → Outcome → Walk S → Entry → Walk S → Type 0
  TakesLeave n outcome before e after = (s : Standing) (limit count : ℕ) → MayLeave s limit count n outcome before
      → s.memory ≡ before.memory → WalkTakes meaning s limit count n (act_of e) after

  -- Somewhere a thread wants an event; wherever it does, it has made it, with a reply.
  abbrev pub IsToMakeEvent : ℕ → Event → Walk S → Type 0
  IsToMakeEvent n event w = (s : Standing) × (t : Running) × WantsOn s n event t w
      × HasThreads s.program (length w.threads.items)

  abbrev pub StandsMade : ℕ → Event → Reply → Walk S → Walk S → Type 0
  StandsMade n event reply before after = (s : Standing) (t : Running) → WantsOn s n event t before
      → WalkStands meaning (made_by s n event reply t) after

  -- The same of threads on loan, and a stage.
  abbrev pub StageMade : List S → Stage → Memory → ℕ → Event → Reply → List S → Stage → Type 0
  StageMade xs before memory n event reply ys after = (s : Standing) (t : Running)
      → StageSettles meaning s xs before n t → s.memory ≡ memory → outcome_of t ≡ None
      → wants_of s.program t ≡ Calls event → StageStands meaning (made_by s n event reply t) ys after

  -- Somewhere a thread has settled with a turn; wherever it has, it took the entry that is given, behind so many
  -- others.
  abbrev pub IsToGoOn : ℕ → Turn → Walk S → Type 0
  IsToGoOn n turn w = (s : Standing) × SettlesOn s n turn w × (s.memory ≡ w.memory)
      × HasThreads s.program (length w.threads.items)

  abbrev pub TakesNext : ℕ → Turn → ℕ → ℕ → Walk S → Option Entry → Walk S → Type 0
  TakesNext n turn limit count before o after = (e : Entry) → o ≡ Some e → (s : Standing) → SettlesOn s n turn before
      → s.memory ≡ before.memory → WalkTakes meaning s limit count e.thread (act_of e) after

  -- The answer that is given was due to a thread, which has taken it.
  abbrev pub HandsDue : List S → Stage → ℕ → Option Answer → List S → Stage → Type 0
  HandsDue xs before n o ys after = (answer : Answer) → o ≡ Some answer → Hands meaning xs before n ys after answer

  abbrev pub TakesDueAnswer : ℕ → Walk S → Option Answer → Walk S → Type 0
  TakesDueAnswer n before o after = (answer : Answer) → o ≡ Some answer → TakesAnswer meaning before after n answer

-- Of the answers that are due one thread's is taken, if it has one.
pub record TakesDue (n : ℕ) (before after : WaitQueue) : Type 0 where
  pub taken : answer_due after n ≡ None
  pub others : (m : ℕ) → m ≢ n → answer_due after m ≡ answer_due before m

-- An event that is no question changes nothing that threads ask of one another.
abbrev pub KeepsStage : Event → Stage → Stage → Type 0
KeepsStage (events.Ask question) before after = Unit {0}
KeepsStage event before after = after ≡ before

-- A walk is the same.
abbrev pub IsSameWalk : {S : Type 0} → Walk S → Walk S → Type 0
IsSameWalk before after = (after.threads.items ≡ before.threads.items) × (after.memory ≡ before.memory)
    × (after.stage ≡ before.stage)
