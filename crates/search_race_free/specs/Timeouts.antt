-- Waits with a timeout, in all runs.
use Rattle.std.specs.Prelude.{ℕ, ◌≡◌, List, Contains, Option, Some}
use Rattle.std.specs.List.{slice_get}
use Rattle.schedule.specs.System.{System, State}
use Rattle.search_settled.specs.Settled.{IsReached}
use Rattle.search_settled.specs.Accesses.{IsTimed}
use Rattle.search_settled.specs.Threads.{ThreadSystem}
use Rattle.search_settled.specs.declared.access.NextAccess.{NextAccess}
use Rattle.search_settled.specs.declared.flat.RestingState.{RestingState}
use Rattle.search_race_free.specs.declared.owning.Owning.{Owning}
use Rattle.search_race_free.specs.declared.met.StateTable.{StateTable}
use Rattle.search_race_free.specs.Wanted.{next_access}
use Rattle.search_race_free.specs.Touches.{access_at}
use Rattle.search_race_free.specs.Reduced.{wanted_in, IsResting}
use Rattle.search_race_free.specs.Met.{HasOwning}

module _ {X T E V A : Type 0} (s : System X T E V A) (first : State X T) (accesses : X → T → E → NextAccess) where
  -- A run comes to where the thread waits next, with a timeout.
  pub record WaitsTimed (n : ℕ) : Type 0 where
    pub state : State X T
    pub reached : IsReached s first state
    pub access : NextAccess
    pub wanted : next_access s accesses state n ≡ Some access
    pub timed : IsTimed access

  -- A thread waits with a timeout in some run.
  abbrev pub SomeWaitsTimed : Type 0
  SomeWaitsTimed = (n : ℕ) × WaitsTimed n

  -- No thread waits with a timeout in any run.
  abbrev pub NoneWaitsTimed : Type 0
  NoneWaitsTimed = (n : ℕ) → WaitsTimed n → ⊥

-- One of these accesses is of a wait with a timeout.
abbrev pub HasTimed : List (Option NextAccess) → Type 0
HasTimed wanted = (n : ℕ) × (a : NextAccess) × (access_at wanted n ≡ Some a) × IsTimed a

module _ {X T E V A G H M : Type 0} (k : ThreadSystem X T E V A G H M) where
  -- No thread waits next with a timeout, wherever this is.
  abbrev pub IsUntimed : RestingState G H → Type 0
  IsUntimed c = (z : State X T) → IsResting k c z → (n : ℕ) (a : NextAccess) → wanted_in k z n ≡ Some a → IsTimed a → ⊥

  -- It is so of the state at this place, if there is one; or of each state of the table.
  abbrev pub IsUntimedAt : StateTable G H → ℕ → Type 0
  IsUntimedAt t at = (ks : List (Owning (RestingState G H))) → HasOwning t ks
      → (s : Owning (RestingState G H)) → slice_get ks at ≡ Some s → IsUntimed s.flat

  abbrev pub AreUntimed : StateTable G H → Type 0
  AreUntimed t = (ks : List (Owning (RestingState G H))) → HasOwning t ks
      → (s : Owning (RestingState G H)) → Contains ks s → IsUntimed s.flat
