-- Settled states of threads that are moved one by one: an event, and where each thread comes to rest after it.
use Rattle.std.specs.Prelude.{ℕ, ◌≡◌, ◌+◌, ◌^◌, ◌<◌, ◌≤◌, List, Contains, length, Option, Some, None}
use Rattle.std.specs.List.{slice_get}
use Rattle.schedule.specs.System.{Want.Calls, System, State}
use Rattle.schedule.specs.Scheduled.{after_event}
use Rattle.search_settled.specs.Settled.{Settles, IsReached}
use Rattle.search_settled.specs.Threads.{ThreadSystem}
use Rattle.search_reach.specs.declared.explores.NextState.{NextState}
use Rattle.search_reach.specs.Search.{AscendBelow}
use Rattle.search_settled.specs.Next.{IsAt, IsNextBy, IsNextOf}
use Rattle.search_settled.specs.declared.flat.RestingState.{RestingState}

-- So many threads were started, and no more than can be, each with a number of 32 bits: an event takes none back, and
-- starts none but those that are counted then.
pub record AreBounded {X T E V A : Type 0} (s : System X T E V A) (first : State X T) (count : X
    → ℕ) (most : ℕ) : Type 0 where
  pub numbered : most ≤ 2 ^ 32
  pub few : (w : State X T) → IsReached s first w → count w.shared ≤ most
  pub more : (w : State X T) → IsReached s first w → (n : ℕ) (e : E) → count w.shared ≤ count (s.after w.shared n e)
  pub none : (w : State X T) → IsReached s first w → (n m : ℕ) (e : E) → s.wants (w.threads n) ≡ Calls e
      → count (s.after w.shared n e) ≤ m → s.starts w.shared n e m ≡ None

module _ {X T E V A G H M : Type 0} (k : ThreadSystem X T E V A G H M) where
  -- Thread n of a state that can be reached.
  abbrev pub IsThreadOf : G → H → ℕ → State X T → Type 0
  IsThreadOf g t n z = IsReached k.system k.first z × k.shares g z.shared × k.is_thread t (z.threads n)

  -- The event that thread n wants to make, if it wants one: what is shared after it, and what it makes.
  abbrev pub IsEventOf : State X T → ℕ → Option (G × M) → Type 0
  IsEventOf z n None = (e : E) → k.system.wants (z.threads n) ≡ Calls e → ⊥
  IsEventOf z n (Some p) =
      (e : E) × (k.system.wants (z.threads n) ≡ Calls e) × k.shares p.0 (k.system.after z.shared n e)
      × k.makes p.1 z.shared n e

  -- It is so wherever a thread n that stands so can come.
  abbrev pub IsEventAt : G → H → ℕ → Option (G × M) → Type 0
  IsEventAt g t n o = (z : State X T) → IsThreadOf g t n z → IsEventOf z n o

  -- Thread n made an event.
  pub record IsMadeBy (made : M) (z : State X T) (n : ℕ) (e : E) : Type 0 where
    pub reached : IsReached k.system k.first z
    pub wants : k.system.wants (z.threads n) ≡ Calls e
    pub is : k.makes made z.shared n e

  -- Thread m comes to rest after it.
  pub record RestsAfter (z : State X T) (n : ℕ) (e : E) (m : ℕ) (t : H) : Type 0 where
    pub settled : T
    pub rests : Settles k.system ((after_event k.system z n e).threads m) settled
    pub is : k.is_thread t settled

  abbrev pub ComesAfter : M → ℕ → H → ℕ → H → Type 0
  ComesAfter made n before m after =
      (z : State X T) (e : E) → IsMadeBy made z n e → k.is_thread before (z.threads m) → RestsAfter z n e m after

  -- There is such an event.
  abbrev pub IsBeforeSome : M → ℕ → H → ℕ → Type 0
  IsBeforeSome made n before m = (z : State X T) × (e : E) × IsMadeBy made z n e × k.is_thread before (z.threads m)

  -- Nothing can be told after it.
  abbrev pub IsStuckBy : (State X T → Type 0) → M → ℕ → H → ℕ → Type 0
  IsStuckBy stuck made n before m =
      (z : State X T) (e : E) → IsMadeBy made z n e → k.is_thread before (z.threads m)
      → stuck (after_event k.system z n e)

  -- Thread m, which it starts, comes to rest after it.
  abbrev pub BeginsAfter : M → ℕ → ℕ → H → Type 0
  BeginsAfter made n m new = (z : State X T) (e : E) → IsMadeBy made z n e → k.count z.shared ≤ m
      → RestsAfter z n e m new

  -- There is such an event.
  abbrev pub StartsSomewhere : M → ℕ → ℕ → Type 0
  StartsSomewhere made n m = (z : State X T) × (e : E) × IsMadeBy made z n e × (k.count z.shared ≤ m)

  -- Nothing can be told after it.
  abbrev pub IsStuckByStart : (State X T → Type 0) → M → ℕ → ℕ → Type 0
  IsStuckByStart stuck made n m =
      (z : State X T) (e : E) → IsMadeBy made z n e → k.count z.shared ≤ m → stuck (after_event k.system z n e)

  -- Thread n of these threads makes an event.
  pub record AreBefore (made : M) (n : ℕ) (threads : List H) (z : State X T) (e : E) : Type 0 where
    pub made_by : IsMadeBy made z n e
    pub len : length threads ≡ k.count z.shared
    pub each : (m : ℕ) (t : H) → slice_get threads m ≡ Some t → k.is_thread t (z.threads m)

  -- Thread m comes to rest after it, whether it is one of them or the event starts it.
  abbrev pub RestsBehind : M → ℕ → List H → ℕ → H → Type 0
  RestsBehind made n threads m after = (z : State X T) (e : E) → AreBefore made n threads z e → RestsAfter z n e m after

  -- There is such an event.
  abbrev pub AreSomewhere : M → ℕ → List H → Type 0
  AreSomewhere made n threads = (z : State X T) × (e : E) × AreBefore made n threads z e

  -- Nothing can be told after it.
  abbrev pub IsStuckBehind : (State X T → Type 0) → M → ℕ → List H → Type 0
  IsStuckBehind stuck made n threads = (z : State X T) (e : E) → AreBefore made n threads z e
      → stuck (after_event k.system z n e)

  -- Thread n of these threads made an event, and this is shared after it.
  pub record IsMove (after : G) (made : M) (n : ℕ) (threads : List H) (z : State X T) (e : E) : Type 0 where
    pub made_by : IsMadeBy made z n e
    pub shared : k.shares after (k.system.after z.shared n e)
    pub len : length threads ≡ k.count z.shared
    pub each : (m : ℕ) (t : H) → slice_get threads m ≡ Some t → k.is_thread t (z.threads m)

  -- All come to rest after it, and so do those that it starts.
  pub record AllComeAfter (after : G) (made : M) (n : ℕ) (threads rested : List H) : Type 0 where
    pub len : (z : State X T) (e : E) → IsMove after made n threads z e
        → length rested ≡ k.count (k.system.after z.shared n e)
    pub each : (z : State X T) (e : E) → IsMove after made n threads z e
        → (m : ℕ) (t : H) → slice_get rested m ≡ Some t → RestsAfter z n e m t

  -- There is such an event.
  abbrev pub MovesSomewhere : G → M → ℕ → List H → Type 0
  MovesSomewhere after made n threads = (z : State X T) × (e : E) × IsMove after made n threads z e

  -- Nothing can be told after it.
  abbrev pub IsStuckByMove : (State X T → Type 0) → G → M → ℕ → List H → Type 0
  IsStuckByMove stuck after made n threads = (z : State X T) (e : E) → IsMove after made n threads z e
      → stuck (after_event k.system z n e)

  -- The next states by the events of the threads below a number.
  pub record HasNextBelow (c : RestingState G H) (i : ℕ) (xs : List (NextState (RestingState G H))) : Type 0 where
    pub all : (z : State X T) → IsAt k c z → (n : ℕ) → n < i → (e : E) → k.system.wants (z.threads n) ≡ Calls e
        → (x : NextState (RestingState G H)) × Contains xs x × (x.thread ≡ n) × IsNextBy k z n e x.state
    pub sound : (z : State X T) → IsAt k c z → (x : NextState (RestingState G H)) → Contains xs x → IsNextOf k z x
    pub ascend : AscendBelow i xs

  -- With what was put to them, they are those by the event of one thread more.
  abbrev pub HasOneMore : RestingState G H → ℕ → List (NextState (RestingState G H))
      → List (NextState (RestingState G H)) → Type 0
  HasOneMore c n before after = HasNextBelow c n before → HasNextBelow c (n + 1) after
