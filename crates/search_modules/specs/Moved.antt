-- The states of a search: what is shared and each thread at rest, of a module's threads.
use Rattle.std.specs.Prelude.{ℕ}
use Rattle.allowed_races.specs.declared.allowed.Allowed.{Allowed}
use Rattle.types.specs.declared.event.Answer.{Answer}
use Rattle.types.specs.declared.event.Event.{Event}
use Rattle.types.specs.declared.event.Reply.{Reply}
use Rattle.schedule.specs.System.{State}
use Rattle.schedule.specs.Scheduled.{after_event}
use Rattle.schedule_threads.specs.Shared.{Shared}
use Rattle.search_runs.specs.Called.{Called, Walker as Thread, system_of}
use Rattle.search_settled.specs.Threads.{ThreadSystem}
use Rattle.search_settled.specs.Flat.{IsMadeBy}
use Rattle.search_parts.specs.Walkers.{RestsAt}
use Rattle.search_parts.specs.declared.walker.RestingThread.{RestingThread}
use Rattle.search_parts.specs.Parts.{IsAfter, IsLost}
use Rattle.search_parts.specs.Threads.{threads_of}
use Rattle.search_parts.specs.declared.event.Effect.{Effect}
use Rattle.search_parts.specs.declared.shared.Common.{Common}
use Rattle.search_parts.specs.declared.shared.HashedThread.{HashedThread}
use Rattle.search_modules.specs.Searching.{called_of}
use Rattle.search_modules.specs.declared.called.Searched.{Searched}

-- What is called.
abbrev pub called : Searched → Called
called s = called_of s.valid.now.parts s.opening.items s.max s.main s.args.items s.worker

-- Its threads, and what stands for them, where so much may race.
abbrev pub threads_by : Allowed → Searched → ThreadSystem Shared Thread Event Reply Answer Common HashedThread Effect
threads_by allowed s = threads_of s.valid.now (called s) allowed s.opening.items

-- The same, where as much may race as in the search.
abbrev pub threads : Searched → ThreadSystem Shared Thread Event Reply Answer Common HashedThread Effect
threads s = threads_by s.allowed s

-- Thread n made an event in one of its states.
abbrev pub IsEffectOf : Searched → Effect → ℕ → State Shared Thread → Event → Type 0
IsEffectOf s made n z e = IsMadeBy (threads s) made z n e

-- Thread m stands so before an event of thread n: there is such a state, and what is so of each after the event.
module _ (s : Searched) (made : Effect) (n : ℕ) (before : RestingThread) (m : ℕ) where
  abbrev pub IsAfterSome : Type 0
  IsAfterSome = (z : State Shared Thread) × (e : Event)
      × IsAfter s.valid.now s.worker made n before m (called s) z e

  abbrev pub OfStateAfter : (State Shared Thread → Type 0) → Type 0
  OfStateAfter so = (z : State Shared Thread) (e : Event) → IsAfter s.valid.now s.worker made n before m (called s) z e
      → so (after_event (system_of (called s)) z n e)

  abbrev pub ThreadRestsThen : HashedThread → Type 0
  ThreadRestsThen t = OfStateAfter (λ z. RestsAt s.valid.now (called s) (z.threads m) t.standing)

-- Nothing can be told of one of the threads: it makes a million turns of its own, or it begins and no function is known
-- for that.
abbrev pub IsStuck : Searched → State Shared Thread → Type 0
IsStuck s z = (m : ℕ) × IsLost s.worker (called s) z m

abbrev pub IsStuckThen : Searched → Effect → ℕ → RestingThread → ℕ → Type 0
IsStuckThen s made n before m = OfStateAfter s made n before m (IsStuck s)
