-- Where threads of a call come to rest after an event, whatever is called of the module.
use Rattle.std.specs.Prelude.{ℕ, ◌≡◌, ◌⊎◌, List, Option, Some, None}
use Rattle.types.specs.declared.event.Answer.{Answer}
use Rattle.types.specs.declared.event.Event.{Event}
use Rattle.types.specs.declared.value.Value.{Value}
use Rattle.validate_typing.specs.Tabled.{WithTables}
use Rattle.schedule.specs.System.{State, Want.Awaits, put}
use Rattle.schedule.specs.Scheduled.{after_event, hears_any}
use Rattle.schedule_threads.specs.Shared.{Shared}
use Rattle.interp_machine.specs.Config.{Config}
use Rattle.interp_trait.specs.Turns.{spawned_in}
use Rattle.search_threads.specs.Unlimited.{Unlimited.Going}
use Rattle.search_runs.specs.Called.{Called, Walker as Thread, system_of, reply_by}
use Rattle.search_parts.specs.Walkers.{IsOf, RestsAt}
use Rattle.search_parts.specs.Rests.{RunsOn}
use Rattle.search_parts.specs.declared.walker.RestingThread.{RestingThread}
use Rattle.search_parts.specs.Parts.{AreWorkers, IsRested, IsAfter, IsLost}
use Rattle.search_parts.specs.declared.event.Begun.{Begun}
use Rattle.search_parts.specs.declared.event.Effect.{Effect}

module _ (w : WithTables) where
  -- What is so of each thread that a spawn starts.
  abbrev pub CanStart : Option ℕ → Type 0
  CanStart worker = (begins : List Value → Config) × AreWorkers w.parts begins worker

  abbrev pub OfStarted : Option ℕ → Begun → (Called → Thread → Type 0) → Type 0
  OfStarted worker begun so = (b : Called) → IsOf b w → AreWorkers w.parts b.worker worker
      → so b (Going (spawned_in b.worker begun.id begun.arg))

  abbrev pub StartsAndRests : Option ℕ → Begun → RestingThread → Type 0
  StartsAndRests worker begun s = OfStarted worker begun (λ b v. RestsAt w b v s)

  abbrev pub StartsAndRunsOn : Option ℕ → Begun → Type 0
  StartsAndRunsOn worker begun = OfStarted worker begun (λ b v. RunsOn b v ⊎ (worker ≡ None))

  -- A thread at rest stands so, and awaits an answer if it is given one: what is so of each then.
  abbrev pub AwaitsAny : Called → Thread → Option Answer → Type 0
  AwaitsAny b v answer = (a : Answer) → answer ≡ Some a → (system_of b).wants v ≡ Awaits

  abbrev pub CanBeTold : RestingThread → Option Answer → Type 0
  CanBeTold s answer = (b : Called) × (v : Thread) × IsOf b w × IsRested w b s v × AwaitsAny b v answer

  abbrev pub OfTold : RestingThread → Option Answer → (Called → Thread → Type 0) → Type 0
  OfTold before answer so = (b : Called) (v : Thread) → IsOf b w → IsRested w b before v → AwaitsAny b v answer
      → so b (hears_any (system_of b) v answer)

  abbrev pub IsToldAndRests : RestingThread → Option Answer → RestingThread → Type 0
  IsToldAndRests before answer s = OfTold before answer (λ b v. RestsAt w b v s)

  abbrev pub IsToldAndRunsOn : RestingThread → Option Answer → Type 0
  IsToldAndRunsOn before answer = OfTold before answer RunsOn

  -- Thread m stands so before an event of thread n: what is so of each once thread n has its reply, and of the state
  -- after the event.
  module _ (worker : Option ℕ) (made : Effect) (n : ℕ) (before : RestingThread) (m : ℕ) where
    abbrev pub IsSomewhereAfter : Type 0
    IsSomewhereAfter = (b : Called) × (z : State Shared Thread) × (e : Event) × IsAfter w worker made n before m b z e

    abbrev pub OfReplied : (Called → Thread → Type 0) → Type 0
    OfReplied so = (b : Called) (z : State Shared Thread) (e : Event) → IsAfter w worker made n before m b z e
        → so b (put z.threads n ((system_of b).takes (z.threads n) (reply_by z.shared n e)) m)

    abbrev pub IsRepliedAndRests : RestingThread → Type 0
    IsRepliedAndRests s = OfReplied (λ b v. RestsAt w b v s)

    abbrev pub IsRepliedAndRunsOn : Type 0
    IsRepliedAndRunsOn = OfReplied RunsOn

    abbrev pub OfAfter : (Called → State Shared Thread → Type 0) → Type 0
    OfAfter so = (b : Called) (z : State Shared Thread) (e : Event) → IsAfter w worker made n before m b z e
        → so b (after_event (system_of b) z n e)

    abbrev pub RestsThen : RestingThread → Type 0
    RestsThen s = OfAfter (λ b z. RestsAt w b (z.threads m) s)

    abbrev pub IsLostThen : Type 0
    IsLostThen = OfAfter (λ b z. IsLost worker b z m)
