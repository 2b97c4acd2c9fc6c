-- Which thread without a budget a walker stands for, and where it comes to rest.
use Rattle.std.specs.Prelude.{ℕ, ◌≡◌, Option, IfSome}
use Rattle.types.specs.declared.event.Event.{Event}
use Rattle.shared_memory.specs.Events.{IsEvent}
use Rattle.validate_typing.specs.Tabled.{WithTables}
use Rattle.schedule.specs.Machine.{Thread.Runs}
use Rattle.interp_machine.specs.Config.{Config}
use Rattle.interp_machine.specs.Program.{program_of}
use Rattle.interp_machine.specs.State.{At, Over}
use Rattle.interp_trait.specs.declared.turn.Given.{Given}
use Rattle.interp_trait.specs.declared.turn.Given.TheVariants as given
use Rattle.interp_trait.specs.Turns.{IsGiven}
use Rattle.schedule_machine.specs.Threads.{IsMadeReply, called}
use Rattle.interp.specs.declared.kept.Kept.{Kept}
use Rattle.interp.specs.Kept.{IsKept}
use Rattle.live_kept.specs.Clearing.{IsKeptUpToDead}
use Rattle.search_threads.specs.Unlimited.{Unlimited.Missing as NoThread, Unlimited.Going as Goes}
use Rattle.search_threads.specs.Unlimited.{Unlimited.Leaving as Leaves, Unlimited.Away as Left}
use Rattle.search_settled.specs.Settled.{Settles}
use Rattle.search_runs.specs.Called.{Called, Walker as Thread, system_of}
use Rattle.search_parts.specs.declared.walker.RestingThread.{RestingThread}
use Rattle.search_parts.specs.declared.walker.RestingThread.TheVariants.{Missing, Going, Ended, Leaving, Away}

-- How many turns of its own a thread makes from one event to the next before it is given up.
unfoldable pub patience : ℕ
patience = 1000000

-- What is called is of this module.
abbrev pub IsOf : Called → WithTables → Type 0
IsOf b w = b.program ≡ program_of w.parts

-- It is the event that a thread of the module wants, one that a memory takes; or nothing where the thread wants none.
pub record Wants (w : WithTables) (v : Thread) (o : Option Event) : Type 0 where
  pub wanted : (b : Called) → IsOf b w → o ≡ called ((system_of b).wants v)
  pub event : IfSome o IsEvent

-- It stands for a thread of a module with its tables, up to locals that are dead where the thread stands, and has the
-- event that this thread wants.
abbrev pub StandsForThread : WithTables → RestingThread → Thread → Type 0
StandsForThread w Missing v = v ≡ NoThread
StandsForThread w (Going k o) v = (c : Config) × (v ≡ Goes (At c)) × IsKeptUpToDead w k c × Wants w v o
StandsForThread w (Ended o) v = v ≡ Goes (Over o)
StandsForThread w (Leaving o) v = v ≡ Leaves o
StandsForThread w (Away o) v = v ≡ Left o

-- A thread comes to rest, by turns of its own, where this stands.
pub record RestsAt (w : WithTables) (b : Called) (v : Thread) (s : RestingThread) : Type 0 where
  pub rested : Thread
  pub settles : Settles (system_of b) v rested
  pub stands : StandsForThread w s rested

-- What a thread without a budget makes of what it is given: the reply to an event that was made, or an answer.
abbrev pub given_to : Called → Thread → Given → Thread
given_to b v given.Nothing = v
given_to b v (given.Reply reply) = (system_of b).takes v reply
given_to b v (given.Told answer) = (system_of b).hears v answer

abbrev pub IsSomething : Given → Type 0
IsSomething given.Nothing = ⊥
IsSomething (given.Reply reply) = IsMadeReply reply
IsSomething (given.Told answer) = Unit {0}

-- It is given to a thread that wants an event, or awaits an answer.
pub record MayBeGiven (w : WithTables) (k : Kept) (fuel : ℕ) (g : Given) (c : Config) : Type 0 where
  pub kept : IsKept w k c
  pub given : IsGiven (program_of w.parts) (Runs (At c) fuel) g
  pub something : IsSomething g
