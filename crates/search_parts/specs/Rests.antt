-- Where threads of a module come to rest, whatever is called of it.
use Rattle.std.specs.Prelude.{ℕ, ◌≡◌, Bool, List, map, Option, Some, None}
use Rattle.types.specs.declared.event.Answer.{Answer}
use Rattle.types.specs.declared.event.Event.{Event}
use Rattle.types.specs.declared.event.Reply.{Reply}
use Rattle.types.specs.declared.parts.Body.{Body}
use Rattle.types.specs.declared.parts.FuncType.{FuncType}
use Rattle.types.specs.declared.value.Value.{Value}
use Rattle.types.specs.Values.{type_of}
use Rattle.validate_typing.specs.Tabled.{WithTables}
use Rattle.schedule.specs.Machine.{Thread.Runs}
use Rattle.schedule.specs.System.{Want.Calls, Want.Awaits}
use Rattle.schedule_machine.specs.Threads.{called}
use Rattle.interp.specs.declared.kept.Kept.{Kept}
use Rattle.interp.specs.declared.thread.Thread.{Thread}
use Rattle.interp.specs.Kept.{RunsBy}
use Rattle.interp.specs.Starts.{IsFunction, start_of}
use Rattle.interp.specs.Threads as threads
use Rattle.interp_machine.specs.Config.{Config}
use Rattle.interp_machine.specs.State.{State, At}
use Rattle.interp_trait.specs.declared.turn.Given.{Given}
use Rattle.interp_trait.specs.declared.turn.Turn.{Turn}
use Rattle.interp_trait.specs.declared.turn.Turn.TheVariants as turns
use Rattle.live_locals.specs.Live.{AreSound}
use Rattle.search_threads.specs.Unlimited.{Unlimited.Going}
use Rattle.search_settled.specs.Settled.{MakesTurns}
use Rattle.search_runs.specs.Called.{Called, Walker, system_of}
use Rattle.search_parts.specs.Walkers.{IsOf, RestsAt, StandsForThread, MayBeGiven, given_to, patience}
use Rattle.search_parts.specs.declared.walker.RestingThread.{RestingThread}
use Rattle.search_parts.specs.declared.walker.RestingThread.TheVariants as standings
use Rattle.live_kept.specs.Clearing.{IsClearedOf}

-- A thread makes more turns of its own than there is patience for.
abbrev pub RunsOn : Called → Walker → Type 0
RunsOn b v = MakesTurns (system_of b) patience v

-- It is so of each thread with this state and so many units.
abbrev pub OfRunning : Thread → (WithTables → Called → State → ℕ → Type 0) → Type 0
OfRunning t so = (w : WithTables) (b : Called) (x : State) (left : ℕ) → IsOf b w → RunsBy w t
    → threads.StandsFor t (Runs x left) → so w b x left

-- It comes to rest so, where these tables of live locals are sound for its module.
abbrev pub ComesToRestAt : List (List (List Bool)) → Thread → RestingThread → Type 0
ComesToRestAt live t s = OfRunning t (λ w b x left. AreSound w live → RestsAt w b (Going x) s)

-- What is kept of it has the locals cleared that are dead by these tables.
abbrev pub IsCleared : List (List (List Bool)) → RestingThread → Type 0
IsCleared live (standings.Going k o) = (old : Kept) × IsClearedOf live old k
IsCleared live standings.Missing = Unit {0}
IsCleared live (standings.Ended o) = Unit {0}
IsCleared live (standings.Leaving o) = Unit {0}
IsCleared live (standings.Away o) = Unit {0}

abbrev pub SpendsAll : Thread → Type 0
SpendsAll t = OfRunning t (λ w b x left. MakesTurns (system_of b) left (Going x))

-- What a thread wants, and the event that is wanted by who makes no further turn of its own, by what it says of why.
abbrev pub IsWantedOf : WithTables → RestingThread → Option Event → Type 0
IsWantedOf w s o = (b : Called) (v : Walker) → IsOf b w → StandsForThread w s v → o ≡ called ((system_of b).wants v)

abbrev pub event_in : Turn → Option Event
event_in turns.Moved = None
event_in (turns.Wants e) = Some e
event_in turns.Awaits = None
event_in (turns.Ended o) = None

-- Whatever the one stands for, the other stands for.
abbrev pub StandsForAll : RestingThread → RestingThread → Type 0
StandsForAll x y = (w : WithTables) (v : Walker) → StandsForThread w x v → StandsForThread w y v

module _ (w : WithTables) where
  -- A function of the module is called with arguments that fit it: what is so of each thread that begins in it.
  abbrev pub CanBegin : ℕ → List Value → Type 0
  CanBegin own args = (t : FuncType) × (body : Body) × IsFunction w.parts own t body × (map type_of args ≡ t.params)

  abbrev pub OfBegun : ℕ → List Value → (Called → Walker → Type 0) → Type 0
  OfBegun own args so = (b : Called) (t : FuncType) (body : Body) → IsOf b w → IsFunction w.parts own t body
      → so b (Going (At (start_of w.parts t body args)))

  abbrev pub BeginsAndRests : ℕ → List Value → RestingThread → Type 0
  BeginsAndRests own args s = OfBegun own args (λ b v. RestsAt w b v s)

  abbrev pub BeginsAndRunsOn : ℕ → List Value → Type 0
  BeginsAndRunsOn own args = OfBegun own args RunsOn

  -- It is so of each thread that was given this.
  abbrev pub OfGiven : Kept → ℕ → Given → (Called → Walker → Type 0) → Type 0
  OfGiven k fuel given so = (b : Called) (c : Config) → IsOf b w → MayBeGiven w k fuel given c
      → so b (given_to b (Going (At c)) given)

  abbrev pub IsGivenAndRests : Kept → ℕ → Given → RestingThread → Type 0
  IsGivenAndRests k fuel given s = OfGiven k fuel given (λ b v. RestsAt w b v s)

  abbrev pub IsGivenAndRunsOn : Kept → ℕ → Given → Type 0
  IsGivenAndRunsOn k fuel given = OfGiven k fuel given RunsOn

  -- A thread that stands so wants an event: what is so of each once it has taken this reply.
  abbrev pub WantsSomeEvent : RestingThread → Type 0
  WantsSomeEvent s = (b : Called) × (v : Walker) × IsOf b w × StandsForThread w s v × (e : Event)
      × ((system_of b).wants v ≡ Calls e)

  abbrev pub OfTaker : RestingThread → Reply → (Called → Walker → Type 0) → Type 0
  OfTaker before reply so = (b : Called) (v : Walker) (e : Event) → IsOf b w → StandsForThread w before v
      → (system_of b).wants v ≡ Calls e
      → so b ((system_of b).takes v reply)

  abbrev pub TakesAndRests : RestingThread → Reply → RestingThread → Type 0
  TakesAndRests before reply s = OfTaker before reply (λ b v. RestsAt w b v s)

  abbrev pub TakesAndRunsOn : RestingThread → Reply → Type 0
  TakesAndRunsOn before reply = OfTaker before reply RunsOn

  -- A thread that stands so awaits an answer: what is so of each once it has heard this one.
  abbrev pub CanHear : RestingThread → Type 0
  CanHear s = (b : Called) × (v : Walker) × IsOf b w × StandsForThread w s v × ((system_of b).wants v ≡ Awaits)

  abbrev pub OfHearer : RestingThread → Answer → (Called → Walker → Type 0) → Type 0
  OfHearer before answer so = (b : Called) (v : Walker) → IsOf b w → StandsForThread w before v
      → (system_of b).wants v ≡ Awaits
      → so b ((system_of b).hears v answer)

  abbrev pub HearsAndRests : RestingThread → Answer → RestingThread → Type 0
  HearsAndRests before answer s = OfHearer before answer (λ b v. RestsAt w b v s)

  abbrev pub HearsAndRunsOn : RestingThread → Answer → Type 0
  HearsAndRunsOn before answer = OfHearer before answer RunsOn
