-- What a thread's event comes to at the memory and at the desk, and what the thread comes to by it.
use Rattle.std.specs.Prelude.{ℕ, ◌≡◌, ◌<◌, ◌⊎◌, Bool, List, Option, Some}
use Rattle.types.specs.declared.event.Event.{Event}
use Rattle.types.specs.declared.event.Event.TheVariants as events
use Rattle.types.specs.declared.event.Reply.{Reply}
use Rattle.types.specs.declared.event.Reply.TheVariants as replies
use Rattle.types.specs.declared.event.Answer.{Answer}
use Rattle.types.specs.declared.event.Entry.{Entry}
use Rattle.shared_memory.specs.Memory.{Memory}
use Rattle.shared_memory.specs.WaitQueue.{IsFree}
use Rattle.shared_memory.specs.History.{queue_after}
use Rattle.shared_memory.specs.Access.{lost_after}
use Rattle.waiters_desk.specs.Calls.{IsWaiting}
use Rattle.schedule.specs.System.{Act.Made, Act.Heard, Want.Awaits}
use Rattle.interp_machine.specs.Program.{Program}
use Rattle.schedule_threads.specs.Seeing.{Sees, SeesAct}
use Rattle.interp_trait.specs.Turns.{Running, outcome_of, left_of, wants_of, IsHere}
use Rattle.interp_trait.specs.declared.gate.Gate.{Ghosts}
use Rattle.interp_trait.specs.declared.turn.Turn.{Turn}
use Rattle.interp_trait.specs.declared.turn.Turn.TheVariants as turns
use Rattle.spawn_host_workers.specs.declared.serving.Served.{Served}
use Rattle.spawn_host_workers.specs.declared.serving.Served.TheVariants as served
use Rattle.interp_trait.specs.Comes.{Comes, MayTry, Watched, try_of}

-- A question with a reply that leaves it open until its answer is heard.
abbrev pub IsOpen : Event → Reply → Type 0
IsOpen (events.Ask question) (replies.Value loaded) = Unit {0}
IsOpen (events.Ask question) replies.Done = Unit {0}
IsOpen event reply = ⊥

-- The question was entered, and its answer.
pub record IsAnswered (limit : Option ℕ) (n : ℕ) (event : Event) (answer : Answer) (before after : List Entry)
    : Type 0 where
  pub reply : Reply
  pub middle : List Entry
  pub opened : IsOpen event reply
  pub asked : SeesAct limit n (Made event reply) before middle
  pub heard : SeesAct limit n (Heard answer) middle after
  pub free : IsFree (queue_after after) n

-- The question was entered, and is open.
pub record IsAsked (limit : Option ℕ) (n : ℕ) (event : Event) (before after : List Entry) : Type 0 where
  pub reply : Reply
  pub opened : IsOpen event reply
  pub asked : SeesAct limit n (Made event reply) before after
  pub waiting : IsWaiting (queue_after after) n

-- What an event came to.
abbrev pub Serves : Bool → Memory → Option ℕ → ℕ → Event → List Entry → List Entry → Served → Type 0
Serves loses opening limit n event before after (served.Replied reply) =
    MayTry event reply × Sees loses opening limit n (try_of event reply) before after × IsFree (queue_after after) n
Serves loses opening limit n event before after (served.Answered answer) = IsAnswered limit n event answer before after
Serves loses opening limit n event before after served.Open = IsAsked limit n event before after

-- Where a turn says how the thread ended, it ended so.
abbrev pub IsEndOf : Turn → Running → Type 0
IsEndOf turns.Moved t = Unit {0}
IsEndOf (turns.Wants event) t = Unit {0}
IsEndOf turns.Awaits t = Unit {0}
IsEndOf (turns.Ended outcome) t = outcome_of t ≡ Some outcome

-- A try that was lost has its reply; no question is lost.
abbrev pub lost_by : Served → ℕ → ℕ
lost_by (served.Replied reply) lost = lost_after reply lost
lost_by _ lost = lost

-- The thread has come from one state to another, for which it stands now.
pub record Attends {G : Type 0} (gate : Ghosts G) (budget : ℕ) (p : Program) (loses : Bool) (opening : Memory)
    (limit : Option ℕ) (n : ℕ) (first : Running) (turn : Turn)
    (Stands : Running → Type 0)
    (before after : Watched G) : Type 0 where
  pub now : Running
  pub stands : Stands now
  pub here : IsHere now
  pub comes : Comes gate budget p loses opening limit n first now before after
  pub ended : IsEndOf turn now

-- A step costs units, unless the thread has ended by it, or awaits an answer that nothing brings.
abbrev pub IsPaid : Program → Running → Turn → Running → Type 0
IsPaid p first turns.Moved now = left_of now < left_of first
IsPaid p first (turns.Wants event) now = ⊥
IsPaid p first turns.Awaits now = (left_of now < left_of first) ⊎ (wants_of p first ≡ Awaits)
IsPaid p first (turns.Ended outcome) now = Unit {0}

-- The thread has made a step: it hasn't stayed as it was.
pub record Steps {G : Type 0} (gate : Ghosts G) (budget : ℕ) (p : Program) (loses : Bool) (opening : Memory)
    (limit : Option ℕ) (n : ℕ) (first : Running) (turn : Turn)
    (Stands : Running → Type 0)
    (before after : Watched G) : Type 0 where
  pub attends : Attends gate budget p loses opening limit n first turn Stands before after
  pub paid : IsPaid p first turn attends.now
