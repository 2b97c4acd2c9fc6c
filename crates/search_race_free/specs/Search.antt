-- What each call of the search shows.
use Rattle.std.specs.Prelude.{ℕ, ◌≡◌, ◌≢◌, ◌+◌, ◌<◌, ◌≤◌, List, Contains, Option, Some}
use Rattle.schedule.specs.System.{Want.Calls, System, State}
use Rattle.search_graph.specs.Paths.{Reaches}
use Rattle.search_reach.specs.declared.explores.NextState.{NextState}
use Rattle.search_reach.specs.Search.{AscendBelow}
use Rattle.search_settled.specs.Settled.{IsReached, StepsBy}
use Rattle.search_settled.specs.Accesses.{Race}
use Rattle.search_settled.specs.Threads.{ThreadSystem}
use Rattle.search_settled.specs.Flat.{IsThreadOf}
use Rattle.search_settled.specs.Next.{IsBeginning, IsNextBy}
use Rattle.search_settled.specs.declared.access.NextAccess.{NextAccess}
use Rattle.search_settled.specs.declared.flat.RestingState.{RestingState}
use Rattle.search_race_free.specs.declared.owning.Touch.{Touch}
use Rattle.search_race_free.specs.declared.owning.Owning.{Owning}
use Rattle.search_race_free.specs.declared.race.ThreadRace.{ThreadRace}
use Rattle.search_race_free.specs.declared.alone.PlainTurn.{PlainTurn}
use Rattle.search_race_free.specs.declared.alone.PlainTurn.TheVariants as alone
use Rattle.search_race_free.specs.declared.alone.Arrival.{Arrival}
use Rattle.search_race_free.specs.declared.alone.Arrival.TheVariants as came
use Rattle.search_race_free.specs.Orders.{times}
use Rattle.search_race_free.specs.Wanted.{next_access}
use Rattle.search_race_free.specs.Races.{HasRace}
use Rattle.search_race_free.specs.Touches.{access_at}
use Rattle.search_race_free.specs.Reduced.{wanted_in, Rest, IsResting, RestsSomewhere, WasMade, IsKept, IsAfterTurn, KeepsTouches, ComesOf}

-- No thread from a number on can go on.
abbrev pub NoneBeyond : {X T E V A : Type 0} → System X T E V A → (X → T → E → NextAccess) → State X T → ℕ → Type 0
NoneBeyond s accesses first most = (w : State _ _) → IsReached s first w → (n : ℕ) → most ≤ n → (a : NextAccess)
    → next_access s accesses w n ≡ Some a → ⊥

-- In such an end no thread can go on.
abbrev pub NobodyGoesOn : {X T E V A O : Type 0} → System X T E V A → (X → T → E → NextAccess)
    → (State X T → O → Type 0) → Type 0
NobodyGoesOn s accesses ends = (w : State _ _) (o : _) → ends w o → (n : ℕ) (a : NextAccess)
    → next_access s accesses w n ≡ Some a → ⊥

module _ {X T E V A G H M : Type 0} (k : ThreadSystem X T E V A G H M) where
  -- What a thread n that stands so does next, wherever it can come.
  abbrev pub IsAccessOf : G → H → ℕ → Option NextAccess → Type 0
  IsAccessOf g t n o = (z : State X T) → IsThreadOf k g t n z → o ≡ wanted_in k z n

  -- What each thread does next.
  abbrev pub AreWanted : RestingState G H → List (Option NextAccess) → Type 0
  AreWanted c wanted = (z : State X T) → IsResting k c z → (t : ℕ) → access_at wanted t ≡ wanted_in k z t

  abbrev pub WantsSome : RestingState G H → ℕ → NextAccess → Type 0
  WantsSome c n a = (z : State X T) → IsResting k c z → wanted_in k z n ≡ Some a

  -- It is where all come to rest after an event of thread n.
  abbrev pub IsAfterEvent : RestingState G H → ℕ → RestingState G H → Type 0
  IsAfterEvent c n x = (z : State X T) → IsResting k c z → (e : E) × (k.system.wants (z.threads n) ≡ Calls e) × IsNextBy k z n e x

  -- Threads can come from there to where nothing can be told.
  abbrev pub GetsLost : (State X T → Type 0) → RestingState G H → Type 0
  GetsLost stuck c = (z : State X T) → IsResting k c z → (end : State X T) × Reaches (StepsBy k.system) z end × stuck end

  -- What is owned was made, and is in no other thread's way.
  pub record IsOwned (s : Owning (RestingState G H)) : Type 0 where
    pub somewhere : RestsSomewhere k s.flat
    pub made : (x : Touch) → Contains s.owned.items x → WasMade k s.flat x
    pub apart : (x y : Touch) → Contains s.owned.items x → Contains s.owned.items y → x.thread ≢ y.thread
        → Race x.access y.access → ⊥

  -- Plain turns lead from z to what x is, none of them of a thread other than this one that can go on at z.
  pub record IsAlongTurns (m : ℕ) (x : Owning (RestingState G H)) (z : State X T) : Type 0 where
    pub order : List ℕ
    pub settled : State X T
    pub makes : Rest k x.owned.items order z settled
    pub resting : IsResting k x.flat settled
    pub others : (u : ℕ) → u ≢ m → (a : NextAccess) → wanted_in k z u ≡ Some a → times u order ≡ 0

  -- By plain turns of thread m s comes to x.
  pub record ComesAlone (m : ℕ) (s x : Owning (RestingState G H)) : Type 0 where
    pub owned : IsOwned x
    pub grows : (t : Touch) → Contains s.owned.items t → Contains x.owned.items t
    pub each : (z : State X T) → IsResting k s.flat z → IsAlongTurns m x z

  -- Of each state that s is, the turn of thread n leads to what x is, by plain turns after it; others own what they owned.
  pub record ComesOnward (n : ℕ) (s x : Owning (RestingState G H)) : Type 0 where
    pub owned : IsOwned x
    pub touches : KeepsTouches k s n x
    pub each : (z : State X T) → IsResting k s.flat z → IsAfterTurn k n x z

  -- It is so of each state whose turn of thread n leads there so, and in which threads want these accesses next.
  abbrev pub OfComing : ℕ → List (Option NextAccess) → Owning (RestingState G H) → (Owning (RestingState G H) → Type 0) → Type 0
  OfComing n wanted x so = (s : Owning (RestingState G H)) → AreWanted s.flat wanted → ComesOnward n s x → so s

  abbrev pub IsRace : ThreadRace → Type 0
  IsRace r = HasRace k.system k.first k.accesses r.one r.other

  -- How a thread goes on alone.
  abbrev pub IsAlone : (State X T → Type 0) → ℕ → Owning (RestingState G H) → PlainTurn (RestingState G H) → Type 0
  IsAlone stuck m s (alone.Stops x) = ComesAlone m s x
  IsAlone stuck m s (alone.GoesOn x) = ComesAlone m s x
  IsAlone stuck m s (alone.Races r) = IsRace r
  IsAlone stuck m s alone.Unknown = GetsLost stuck s.flat

  -- Where it came: what holds of that; or a race, or nothing can be told from s on.
  abbrev pub IsCame : {B : Type 0} → (State X T → Type 0) → RestingState G H → (B → Type 0) → Arrival B → Type 0
  IsCame stuck c P (came.To x) = P x
  IsCame stuck c P (came.Races r) = IsRace r
  IsCame stuck c P came.Unknown = GetsLost stuck c

  -- It can be reached, and what is owned there is safe and was made.
  pub record IsKnown (s : Owning (RestingState G H)) : Type 0 where
    pub somewhere : RestsSomewhere k s.flat
    pub kept : IsKept k s

  -- All come to rest there in the beginning.
  pub record IsBegun (x : Owning (RestingState G H)) : Type 0 where
    pub kept : IsKept k x
    pub beginning : IsBeginning k x.flat

  -- That; or a race, or nothing can be told from the beginning on.
  abbrev pub IsCameFirst : (State X T → Type 0) → Arrival (Owning (RestingState G H)) → Type 0
  IsCameFirst stuck (came.To x) = IsBegun x
  IsCameFirst stuck (came.Races r) = IsRace r
  IsCameFirst stuck came.Unknown = stuck k.first

  -- There is one of these of each thread below a number that can go on, and each of these is of such a thread.
  pub record HasReducedBelow (s : Owning (RestingState G H)) (i : ℕ)
      (xs : List (NextState (Owning (RestingState G H)))) : Type 0 where
    pub all : (z : State X T) → IsResting k s.flat z → (n : ℕ) → n < i → (a : NextAccess) → wanted_in k z n ≡ Some a
        → (x : NextState (Owning (RestingState G H))) × Contains xs x × (x.thread ≡ n)
    pub each : (x : NextState (Owning (RestingState G H))) → Contains xs x → ComesOf k s x.thread x.state
    pub ascend : AscendBelow i xs

  -- With what was put to them, they are those of one thread more.
  abbrev pub HasOneMore : Owning (RestingState G H) → ℕ → List (NextState (Owning (RestingState G H)))
      → List (NextState (Owning (RestingState G H))) → Type 0
  HasOneMore s n before after = HasReducedBelow s n before → HasReducedBelow s (n + 1) after
