-- The run of one thread, and what it saw of the one history at each of its steps.
use Rattle.std.specs.Prelude.{ℕ, ◌≡◌, Bool, true, List, [], ◌∷◌, ◌++◌, Option}
use Rattle.types.specs.declared.event.Event.{Event}
use Rattle.types.specs.declared.event.Event.TheVariants as events
use Rattle.types.specs.declared.event.Reply.{Reply}
use Rattle.types.specs.declared.event.Reply.TheVariants as replies
use Rattle.types.specs.declared.event.Answer.{Answer}
use Rattle.types.specs.declared.event.Entry.{Entry}
use Rattle.types.specs.declared.outcome.Outcome.{Outcome}
use Rattle.shared_memory.specs.Memory.{Memory}
use Rattle.shared_memory.specs.History.{entry, entries_of, memory_after}
use Rattle.shared_memory.specs.Access.{Changes, WasExpected, HasRoom, HasReached}
use Rattle.schedule.specs.System.{Act, Act.Made, Act.Heard, Step, Step.Own, Step.Lost, Step.Full, Step.Acts}
use Rattle.schedule.specs.ThreadRun.{IsThreadRun}
use Rattle.schedule.specs.Machine.{Thread, Thread.Left}
use Rattle.interp_machine.specs.Program.{Program}
use Rattle.interp_machine.specs.State.{State}
use Rattle.schedule_threads.specs.Shared.{over_memory_and_queue}
use Rattle.schedule_threads.specs.Threads.{machine_of}

-- An act of a thread as an entry of the history.
abbrev pub event_of : Act Event Reply Answer → Event
event_of (Made event reply) = event
event_of (Heard answer) = events.Told answer

abbrev pub reply_with : Act Event Reply Answer → Reply
reply_with (Made event reply) = reply
reply_with (Heard answer) = replies.Done

abbrev pub entered : ℕ → Act Event Reply Answer → Entry
entered n act = entry n (event_of act) (reply_with act)

-- The list that thread n has seen goes on, in one step, with entries of others: a try is lost only where one of them
-- changes what its event touches, and a compare-exchange only where its expected value was there;
pub record SeesLost (loses : Bool) (opening : Memory) (n : ℕ) (event : Event) (before after : List Entry) : Type 0 where
  pub others : List Entry
  pub list : after ≡ before ++ others
  pub apart : entries_of n others ≡ []
  pub may : loses ≡ true
  pub cause : Changes (memory_after opening before) event others
  pub expected : WasExpected (memory_after opening before) event others

-- a log is full only where they reach the limit;
pub record SeesFull (limit : Option ℕ) (n : ℕ) (before after : List Entry) : Type 0 where
  pub others : List Entry
  pub list : after ≡ before ++ others
  pub apart : entries_of n others ≡ []
  pub reached : HasReached limit after

-- an act is entered behind them, where there is room for it, and further entries of others may be seen with it.
pub record SeesAct (limit : Option ℕ) (n : ℕ) (act : Act Event Reply Answer) (before after : List Entry) : Type 0 where
  pub others : List Entry
  pub so_far : List Entry
  pub behind : List Entry
  pub gains : so_far ≡ before ++ others
  pub apart : entries_of n others ≡ []
  pub list : after ≡ so_far ++ entered n act ∷ behind
  pub apart_behind : entries_of n behind ≡ []
  pub room : HasRoom limit (event_of act) so_far

abbrev pub Sees : Bool → Memory → Option ℕ → ℕ → Step Event Reply Answer → List Entry → List Entry → Type 0
Sees loses opening limit n Own before after = after ≡ before
Sees loses opening limit n (Lost event) before after = SeesLost loses opening n event before after
Sees loses opening limit n (Full event) before after = SeesFull limit n before after
Sees loses opening limit n (Acts act) before after = SeesAct limit n act before after

-- From one list to another, step by step.
abbrev pub SeesAll : Bool → Memory → Option ℕ → ℕ → List Entry → List (Step Event Reply Answer) → List Entry → Type 0
SeesAll loses opening limit n before [] last = before ≡ last
SeesAll loses opening limit n before (p ∷ steps) last =
    (after : List Entry) × Sees loses opening limit n p before after × SeesAll loses opening limit n after steps last

-- Thread n runs from one state to its end, by steps of the thread machine, and sees these lists meanwhile. What threads
-- share has no part in it.
pub record RunsToEnd (p : Program) (loses : Bool) (opening : Memory) (limit : Option ℕ) (n : ℕ)
    (first : Thread State Outcome) (outcome : Outcome) (left : ℕ)
    (before after : List Entry) : Type 0 where
  pub steps : List (Step Event Reply Answer)
  pub run : (start : ℕ → ℕ → State) (fuel : ℕ)
      → IsThreadRun (over_memory_and_queue (machine_of p) start fuel) first steps (Left outcome left)
  pub sees : SeesAll loses opening limit n before steps after
