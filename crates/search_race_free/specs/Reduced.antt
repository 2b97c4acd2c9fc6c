-- Settled states with what is owned, and what they stand for: states from which threads come there by plain turns alone.
use Rattle.std.specs.Prelude.{ℕ, ◌≡◌, ◌≢◌, ◌⊎◌, true, List, Contains, Some, Option}
use Rattle.schedule.specs.System.{Want.Turns, State}
use Rattle.search_reach.specs.declared.explores.NextState.{NextState}
use Rattle.search_reach.specs.Search.{StepSystem, Ascend}
use Rattle.search_settled.specs.Settled.{IsReached, turning}
use Rattle.search_settled.specs.Accesses.{HasByte, WritesOver}
use Rattle.search_settled.specs.Threads.{ThreadSystem, IsFlat}
use Rattle.search_settled.specs.Next.{IsFirstOf}
use Rattle.search_settled.specs.declared.access.NextAccess.{NextAccess}
use Rattle.search_settled.specs.declared.flat.RestingState.{RestingState}
use Rattle.search_race_free.specs.declared.owning.Touch.{Touch}
use Rattle.search_race_free.specs.declared.owning.Owning.{Owning}
use Rattle.search_race_free.specs.Orders.{times, MakesPlain}
use Rattle.search_race_free.specs.Wanted.{next_access, after_next}
use Rattle.search_race_free.specs.Races.{HasMade, WasWrittenOver, HasRace}
use Rattle.search_race_free.specs.Owned.{Within, IsSafe}

module _ {X T E V A G H M : Type 0} (k : ThreadSystem X T E V A G H M) where
  -- What thread n does next.
  abbrev pub wanted_in : State X T → ℕ → Option NextAccess
  wanted_in = next_access k.system k.accesses

  abbrev pub next_in : State X T → ℕ → State X T
  next_in = after_next k.system

  -- Plain turns of these threads, each within what its thread owns.
  abbrev pub Rest : List Touch → List ℕ → State X T → State X T → Type 0
  Rest owned = MakesPlain wanted_in next_in (Within owned)

  -- It is a state that can be reached and in which no thread wants a turn of its own.
  pub record IsResting (c : RestingState G H) (z : State X T) : Type 0 where
    pub reached : IsReached k.system k.first z
    pub rests : (m : ℕ) → k.system.wants (z.threads m) ≡ Turns → ⊥
    pub settled_is : IsFlat k c z

  abbrev pub RestsSomewhere : RestingState G H → Type 0
  RestsSomewhere c = (z : State X T) × IsResting c z

  -- On a run that comes to the flat state the thread has touched the byte by a plain access, and made nothing since that
  -- isn't plain.
  pub record HasTouched (c : RestingState G H) (x : Touch) (byte : ℕ) : Type 0 where
    pub state : State X T
    pub is : IsResting c state
    pub access : NextAccess
    pub made : HasMade k.system k.first k.accesses x.thread access state
    pub has : HasByte access byte
    pub writes : x.access.writes ≡ true → access.writes ≡ true

  -- On a run that comes to the flat state the access was written over, and the thread has made no turn since.
  pub record IsMissed (c : RestingState G H) (x : Touch) : Type 0 where
    pub state : State X T
    pub is : IsResting c state
    pub was : WasWrittenOver k.system k.first k.accesses x.thread x.access state

  -- Each byte was touched; or the access was written over.
  abbrev pub WasMade : RestingState G H → Touch → Type 0
  WasMade c x = ((byte : ℕ) → HasByte x.access byte → HasTouched c x byte) ⊎ IsMissed c x

  -- What is owned is safe, and was made.
  pub record IsKept (s : Owning (RestingState G H)) : Type 0 where
    pub safe : (z : State X T) → IsResting s.flat z → IsSafe k.system k.accesses s.owned.items z
    pub made : (x : Touch) → Contains s.owned.items x → WasMade s.flat x

  -- It stands for each state that can be reached and from which plain turns within what is owned lead to one that it is;
  -- each thread makes so many.
  pub record StandsBefore (s : Owning (RestingState G H)) (w : State X T) (turns : ℕ → ℕ) : Type 0 where
    pub kept : IsKept s
    pub reached : IsReached k.system k.first w
    pub order : List ℕ
    pub settled : State X T
    pub makes : Rest s.owned.items order w settled
    pub rests : (m : ℕ) → k.system.wants (settled.threads m) ≡ Turns → ⊥
    pub settled_is : IsFlat k s.flat settled
    pub turns_are : (n : ℕ) → turns n ≡ times n order

  -- There is a race.
  abbrev pub SomeRace : Type 0
  SomeRace = (one : ℕ) × (other : ℕ) × HasRace k.system k.first k.accesses one other

  -- The turn of thread n keeps the touches of others, and where it writes over what another one does next, that is there.
  pub record KeepsTouches (s : Owning (RestingState G H)) (n : ℕ) (x : Owning (RestingState G H)) : Type 0 where
    pub kept : (t : Touch) → t.thread ≢ n → Contains s.owned.items t → Contains x.owned.items t
    pub over : (z : State X T) → IsResting s.flat z → (a : NextAccess) → wanted_in z n ≡ Some a → (t : Touch) → t.thread ≢ n
        → wanted_in z t.thread ≡ Some t.access → WritesOver a t.access → Contains x.owned.items t

  -- What is searched: the turns of threads, by these states. Nothing can be told of any where there is a race.
  abbrev pub reduced_steps : {O : Type 0} → (State X T → O → Type 0) → (State X T → Type 0)
      → StepSystem (Owning (RestingState G H)) (State X T) O
  reduced_steps ends stuck = record {
    worlds = turning k.system;
    most = k.most;
    stands = StandsBefore;
    follows = KeepsTouches;
    begins = IsFirstOf k.first;
    ends = ends;
    stuck = λ w. stuck w ⊎ SomeRace;
  }

  -- From z, the next turn of thread n and then plain ones lead to what x is; of these none is of another thread that could
  -- go on at z.
  pub record IsAfterTurn (n : ℕ) (x : Owning (RestingState G H)) (z : State X T) : Type 0 where
    pub access : NextAccess
    pub wants : wanted_in z n ≡ Some access
    pub order : List ℕ
    pub settled : State X T
    pub makes : Rest x.owned.items order (next_in z n) settled
    pub rests : (m : ℕ) → k.system.wants (settled.threads m) ≡ Turns → ⊥
    pub settled_is : IsFlat k x.flat settled
    pub others : (u : ℕ) → u ≢ n → (a : NextAccess) → wanted_in z u ≡ Some a → times u order ≡ 0

  -- It is so of each state that s is, and what others own there they own still.
  pub record ComesOf (s : Owning (RestingState G H)) (n : ℕ) (x : Owning (RestingState G H)) : Type 0 where
    pub kept : IsKept x
    pub each : (z : State X T) → IsResting s.flat z → IsAfterTurn n x z
    pub touches : KeepsTouches s n x

  -- There is one of these of each thread that can go on, and each of these is of such a thread, in their order.
  pub record HasReduced (s : Owning (RestingState G H))
      (xs : List (NextState (Owning (RestingState G H)))) : Type 0 where
    pub all : (z : State X T) → IsResting s.flat z → (n : ℕ) (a : NextAccess) → wanted_in z n ≡ Some a
        → (x : NextState (Owning (RestingState G H))) × Contains xs x × (x.thread ≡ n)
    pub each : (x : NextState (Owning (RestingState G H))) → Contains xs x → ComesOf s x.thread x.state
    pub ascend : Ascend xs
