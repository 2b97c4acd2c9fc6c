-- Threads to which nothing happens at an event, and to which something does.
use Rattle.std.specs.Prelude.{ℕ, ◌≡◌, ◌≢◌, ◌⊎◌, Option, Some, None}
use Rattle.types.specs.declared.event.Event.{Event}
use Rattle.validate_typing.specs.Tabled.{WithTables}
use Rattle.schedule.specs.System.{State}
use Rattle.schedule.specs.Scheduled.{after_event}
use Rattle.schedule_threads.specs.Shared.{Shared}
use Rattle.search_runs.specs.Called.{Called, Walker as Thread, system_of}
use Rattle.search_parts.specs.Walkers.{RestsAt}
use Rattle.search_parts.specs.declared.walker.RestingThread.{RestingThread}
use Rattle.search_parts.specs.Parts.{IsAfter}
use Rattle.search_parts.specs.Sharing.{answer_in}
use Rattle.search_parts.specs.declared.event.Begun.{Begun}
use Rattle.search_parts.specs.declared.event.Effect.{Effect}

-- Thread m stands after an event of thread n as it did before.
abbrev pub StandsAsBefore : Effect → ℕ → ℕ → Type 0
StandsAsBefore made n m =
    (w : WithTables) (worker : Option ℕ) (s : RestingThread) (b : Called) (z : State Shared Thread) (e : Event)
    → IsAfter w worker made n s m b z e → RestsAt w b ((after_event (system_of b) z n e).threads m) s

-- Thread m made the event of thread n, or an answer is due to it then, or the event starts it.
abbrev pub IsTouched : Effect → ℕ → ℕ → Type 0
IsTouched made n m = (n ≡ m) ⊎ ((answer_in made m ≢ None) ⊎ ((g : Begun) × (made.begun ≡ Some g) × (g.id ≡ m)))
