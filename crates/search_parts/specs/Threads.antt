-- The threads of a call, and what stands for them.
use Rattle.std.specs.Prelude.{ℕ, ◌≡◌, List, length, Option}
use Rattle.allowed_races.specs.declared.allowed.Allowed.{Allowed}
use Rattle.types.specs.declared.limits.TheConstants.{MOST_THREADS}
use Rattle.types.specs.declared.event.Answer.{Answer}
use Rattle.types.specs.declared.event.Event.{Event}
use Rattle.types.specs.declared.event.Reply.{Reply}
use Rattle.validate_typing.specs.Tabled.{WithTables}
use Rattle.schedule.specs.System.{State}
use Rattle.schedule_threads.specs.Shared.{Shared}
use Rattle.search_runs.specs.Accesses.{access_of}
use Rattle.search_runs.specs.Called.{Called, Walker as Thread, system_of, first_state}
use Rattle.search_endings.specs.Endings.{Ending}
use Rattle.search_runs.specs.Ends.{HasEndedSo}
use Rattle.search_settled.specs.declared.access.NextAccess.{NextAccess}
use Rattle.search_settled.specs.declared.flat.RestingState.{RestingState}
use Rattle.search_settled.specs.Threads.{ThreadSystem}
use Rattle.search_settled.specs.Next.{IsSomewhere, HasEnded}
use Rattle.search_settled.specs.Flat.{IsEventOf}
use Rattle.search_race_free.specs.Wanted.{next_access}
use Rattle.search_parts.specs.declared.walker.RestingThread.{RestingThread}
use Rattle.search_parts.specs.Sharing.{Shares, Makes, started_in}
use Rattle.search_parts.specs.Parts.{IsRested, IsThreadIn}
use Rattle.search_parts.specs.declared.event.Effect.{Effect}
use Rattle.search_parts.specs.declared.shared.Common.{Common}
use Rattle.search_parts.specs.declared.shared.HashedThread.{HashedThread}

-- What may race, stands in what they do with the memory alone.
abbrev pub threads_of : WithTables → Called → Allowed → List ℕ
    → ThreadSystem Shared Thread Event Reply Answer Common HashedThread Effect
threads_of w b allowed opening = record {
  system = system_of b;
  first = first_state b;
  accesses = access_of allowed (length opening);
  count = started_in;
  most = MOST_THREADS;
  shares = Shares opening;
  is_thread = λ t. IsRested w b t.standing;
  makes = Makes;
}

-- Thread n stands so in a state of a call, and this is the event that it wants.
abbrev pub IsInCall : WithTables → List ℕ → Common → RestingThread → ℕ → Type 0
IsInCall w opening c s n = (b : Called) × (z : State Shared Thread) × IsThreadIn w opening c s n b z

abbrev pub IsEventIn : WithTables → List ℕ → Common → RestingThread → ℕ → Option (Common × Effect) → Type 0
IsEventIn w opening c s n o = (b : Called) (allowed : Allowed) (z : State Shared Thread)
    → IsThreadIn w opening c s n b z → IsEventOf (threads_of w b allowed opening) z n o

-- This is what it does with the memory next, if it can go on, where so much may race.
abbrev pub IsAccessIn : WithTables → Allowed → List ℕ → Common → RestingThread → ℕ → Option NextAccess → Type 0
IsAccessIn w allowed opening c s n o = (b : Called) (z : State Shared Thread) → IsThreadIn w opening c s n b z
    → o ≡ next_access (system_of b) (access_of allowed (length opening)) z n

-- A settled state of a call, and how it has ended.
abbrev pub IsSettled : List ℕ → RestingState Common HashedThread → Type 0
IsSettled opening flat = (w : WithTables) × (b : Called) × (allowed : Allowed)
    × IsSomewhere (threads_of w b allowed opening) flat

abbrev pub HasEndedIn : List ℕ → ℕ → RestingState Common HashedThread → Option Ending → Type 0
HasEndedIn opening dump flat o = (w : WithTables) (b : Called) (allowed : Allowed)
    → HasEnded (threads_of w b allowed opening) (HasEndedSo dump) flat o
