-- Threads that an ear hears while a run is made.
use Rattle.std.proofs.Common.{◌≡◌, ℕ, Bool, false, List, Option, Some, None, get_or, subst, slice_get}
use Rattle.types.specs.declared.value.Value.{Value}
use Rattle.types.specs.declared.outcome.Outcome.{Outcome}
use Rattle.types.specs.declared.event.Answer.{Answer}
use Rattle.types.specs.declared.event.Event.{Event}
use Rattle.types.specs.declared.event.Event.TheVariants as events
use Rattle.types.specs.declared.event.Question.TheVariants as questions
use Rattle.shared_memory.specs.Events.{is_exempt}
use Rattle.shared_memory.specs.WaitQueue.{WaitQueue, is_alive}
use Rattle.schedule.specs.Histories.{Place, Place.Due}
use Rattle.interp_machine.specs.Program.{Program}
use Rattle.interp_machine.specs.Config.{Config}
use Rattle.interp_trait.specs.Turns.{Running, Meaning}
use Rattle.interp_trait.specs.declared.turn.Turn.{Turn}
use Rattle.interp_trait.specs.declared.turn.Turn.TheVariants as turns
use Rattle.replay_walk.specs.Standing.{Standing, IsStanding, StandsAt}
use Rattle.search_scheduled.specs.Heard.{IsMadeBy}

-- an event that a thread wants is neither an answer nor a leave
pub made_plain : {S : Type 0} (event : Event) (turn : Turn) (settled after : List S) → is_exempt event ≡ false
    → turn ≡ turns.Wants event → IsMadeBy event turn settled after
made_plain (events.Told answer) turn settled after plain is = absurd (cc plain)
made_plain (events.Ask questions.Leave) turn settled after plain is = absurd (cc plain)
made_plain (events.Ask (questions.Wait a b c d)) turn settled after plain is = is
made_plain (events.Ask (questions.Notify a b)) turn settled after plain is = is
made_plain (events.Ask (questions.Spawn a)) turn settled after plain is = is
made_plain events.Size turn settled after plain is = is
made_plain (events.Grow pages) turn settled after plain is = is
made_plain (events.Load a b c) turn settled after plain is = is
made_plain (events.Store a b c d) turn settled after plain is = is
made_plain (events.Rmw a b c d) turn settled after plain is = is
made_plain (events.Cmpxchg a b c d) turn settled after plain is = is

module _ {S : Type 0} (meaning : S → Meaning) where
  there : (p : Program) (worker : List Value → Config) (answer : Answer) (t : Running) (slot : Option S)
      (o : Option Outcome) (alive : Bool) → StandsAt meaning p worker (Due answer) t slot o alive
      → (x : S) × (slot ≡ Some x)
  there p worker answer t slot None alive h = let w = (h.0).waits in (w.thread, w.at)
  there p worker answer t slot (Some outcome) alive h = let gone = h.2 in (gone.thread, gone.at)

  -- a thread to which an answer is due is there
  pub due_there : (s : Standing) (threads : List S) (queue : WaitQueue) (begun : ℕ) (ends : List (Option Outcome)) (n : ℕ)
      (answer : Answer) → IsStanding meaning s threads queue begun ends → s.places n ≡ Due answer
      → (x : S) × (slice_get threads n ≡ Some x)
  due_there s threads queue begun ends n answer standing due =
      there s.program s.worker answer (s.state.threads n) (slice_get threads n) (get_or ends n None) (is_alive queue n)
      (subst (λ (p : Place Answer). StandsAt meaning s.program s.worker p (s.state.threads n) (slice_get threads n)
      (get_or ends n None) (is_alive queue n)) due (standing.each n))
