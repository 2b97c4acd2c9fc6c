-- Lost tries and full logs: what a thread saw at each of its steps, and what then stands in the history.
use Rattle.std.specs.Prelude.{ℕ, suc, zero, ◌≡◌, ◌≢◌, ◌==◌, ◌<◌, ◌≤◌, ◌⊎◌, Bool, true, false, List, [], ◌∷◌, ◌++◌}
use Rattle.std.specs.Prelude.{length, Option, Some, None}
use Rattle.schedule.specs.System.{Act, Act.Made, Act.Heard, Step, Step.Own, Step.Lost, Step.Full, Step.Acts, Entry}
use Rattle.schedule.specs.System.{Mark, Kind, Kind.Turn, Kind.Loses, Kind.Fills, System}
use Rattle.schedule.specs.ThreadRun.{after_first_act, losses, IsLost, found_full}
use Rattle.schedule.specs.Histories.{Place, Place.Unstarted, Place.Free, Place.Open, Place.Due, acts_of, next_shared}
use Rattle.schedule.specs.Histories.{shared_after, places_after, starts_at}

-- Of a shared state X and events E: whether tries can be lost, what an event touches, which another changes where a try
-- of it is lost, how many entries a log holds, if that is limited, and which events it takes even when it is full.
pub record TryRules (X E W : Type 0) : Type 0 where
  pub loses : Bool
  pub touched : X → E → W
  pub limit : Option ℕ
  pub is_exempt : E → Bool

-- A history of so many entries has reached the limit.
abbrev pub HasReached : Option ℕ → ℕ → Type 0
HasReached None count = ⊥
HasReached (Some limit) count = limit ≤ count

-- A history of so many entries has room for one more, if that isn't exempt.
abbrev pub HasRoom : Option ℕ → Bool → ℕ → Type 0
HasRoom None exempt count = Unit {0}
HasRoom (Some limit) exempt count = exempt ≡ false → count < limit

abbrev pub if_true : Bool → Type 0 → Type 0 → Type 0
if_true true this that = this
if_true false this that = that

abbrev pub if_some : {B : Type 0} → Option B → Type 0 → Type 0 → Type 0
if_some (Some b) this that = this
if_some None this that = that

module _ {X T E V A W : Type 0} (s : System X T E V A) (rules : TryRules X E W) where
  -- An answer heard is entered whatever the limit.
  abbrev pub is_act_exempt : Act E V A → Bool
  is_act_exempt (Made e v) = rules.is_exempt e
  is_act_exempt (Heard a) = true

  -- One of these entries, made from a shared state on, changes what the event touches.
  pub record IsChanged (x : X) (e : E) (others : List (Entry E V A)) : Type 0 where
    pub front : List (Entry E V A)
    pub changing : Entry E V A
    pub back : List (Entry E V A)
    pub among : others ≡ front ++ changing ∷ back
    pub changed : rules.touched (shared_after s x (front ++ changing ∷ [])) e ≢ rules.touched (shared_after s x front) e

  -- The list that thread n has seen goes on, in one step, with entries of others:
  -- a try is lost only where one of them changes what its event touches;
  pub record SeesLost (first : X) (n : ℕ) (e : E) (before after : List (Entry E V A)) : Type 0 where
    pub others : List (Entry E V A)
    pub list : after ≡ before ++ others
    pub apart : acts_of n others ≡ []
    pub may : rules.loses ≡ true
    pub cause : IsChanged (shared_after s first before) e others

  -- a log is full only where they reach the limit;
  pub record SeesFull (n : ℕ) (before after : List (Entry E V A)) : Type 0 where
    pub others : List (Entry E V A)
    pub list : after ≡ before ++ others
    pub apart : acts_of n others ≡ []
    pub reached : HasReached rules.limit (length after)

  -- an act is entered behind them, where there is room for it, and further entries of others may be seen with it.
  pub record SeesAct (n : ℕ) (act : Act E V A) (before after : List (Entry E V A)) : Type 0 where
    pub others : List (Entry E V A)
    pub so_far : List (Entry E V A)
    pub behind : List (Entry E V A)
    pub gains : so_far ≡ before ++ others
    pub apart : acts_of n others ≡ []
    pub list : after ≡ so_far ++ record { thread = n; act = act } ∷ behind
    pub apart_behind : acts_of n behind ≡ []
    pub room : HasRoom rules.limit (is_act_exempt act) (length so_far)

  abbrev pub Sees : X → ℕ → Step E V A → List (Entry E V A) → List (Entry E V A) → Type 0
  Sees first n Own before after = after ≡ before
  Sees first n (Lost e) before after = SeesLost first n e before after
  Sees first n (Full e) before after = SeesFull n before after
  Sees first n (Acts act) before after = SeesAct n act before after

  -- From one list to another, step by step.
  abbrev pub SeesAll : X → ℕ → List (Entry E V A) → List (Step E V A) → List (Entry E V A) → Type 0
  SeesAll first n before [] last = before ≡ last
  SeesAll first n before (p ∷ steps) last = (after : List (Entry E V A)) × Sees first n p before after
      × SeesAll first n after steps last

  -- Thread n and the history H: the list with which it began, in which it was started and has no entry; what it saw
  -- from there on, step by step; and H, which goes on from the last that it saw.
  pub record HasSeen (first : X) (places : ℕ → Place A) (H : List (Entry E V A)) (n : ℕ) (steps : List (Step E V A))
      : Type 0 where
    pub begun : List (Entry E V A)
    pub started : places_after s first places begun n ≡ Unstarted → ⊥
    pub fresh : acts_of n begun ≡ []
    pub last : List (Entry E V A)
    pub sees : SeesAll first n begun steps last
    pub unseen : List (Entry E V A)
    pub history : H ≡ last ++ unseen

  -- Before the next entry of thread n, at least so many entries change what the event touches.
  abbrev pub HasChanges : List (Entry E V A) → ℕ → ℕ → E → X → Type 0
  HasChanges [] zero n e x = Unit {0}
  HasChanges [] (suc count) n e x = ⊥
  HasChanges (h ∷ H) zero n e x = Unit {0}
  HasChanges (h ∷ H) (suc count) n e x =
      (h.thread ≢ n)
      × (((rules.touched (next_shared s x h.thread h.act) e ≢ rules.touched x e)
      × HasChanges H count n e (next_shared s x h.thread h.act))
      ⊎ HasChanges H (suc count) n e (next_shared s x h.thread h.act))

  -- For each event of which the thread loses a try before its next act, as many as the tries that it loses there.
  abbrev pub HasEnough : ℕ → X → List (Entry E V A) → List (Step E V A) → Type 0
  HasEnough n x H steps = (e : E) → IsLost e steps → HasChanges H (losses steps) n e x

  -- So after each entry of the thread,
  abbrev pub HasEnoughLater : List (Entry E V A) → ℕ → X → List (Step E V A) → Type 0
  HasEnoughLater [] n x steps = Unit {0}
  HasEnoughLater (h ∷ H) n x steps =
      if_true (h.thread == n)
      (HasEnough n (next_shared s x h.thread h.act) H (after_first_act steps)
      × HasEnoughLater H n (next_shared s x h.thread h.act) (after_first_act steps))
      (HasEnoughLater H n (next_shared s x h.thread h.act) steps)

  -- and after the entry that starts it,
  abbrev pub HasEnoughOnceStarted : List (Entry E V A) → ℕ → X → List (Step E V A) → Type 0
  HasEnoughOnceStarted [] n x steps = Unit {0}
  HasEnoughOnceStarted (h ∷ H) n x steps =
      if_some (starts_at s n x h.thread h.act)
      (HasEnough n (next_shared s x h.thread h.act) H steps × HasEnoughLater H n (next_shared s x h.thread h.act) steps)
      (HasEnoughOnceStarted H n (next_shared s x h.thread h.act) steps)

  -- or from the beginning on, if it is there.
  abbrev pub AreLossesCovered : Place A → ℕ → X → List (Entry E V A) → List (Step E V A) → Type 0
  AreLossesCovered Unstarted n x H steps = HasEnoughOnceStarted H n x steps
  AreLossesCovered Free n x H steps = HasEnough n x H steps × HasEnoughLater H n x steps
  AreLossesCovered Open n x H steps = HasEnough n x H steps × HasEnoughLater H n x steps
  AreLossesCovered (Due a) n x H steps = HasEnough n x H steps × HasEnoughLater H n x steps

  -- Before an entry of a thread that found the log full, the history has reached the limit.
  abbrev pub IsFullOnlyAtLimit : List (Entry E V A) → ℕ → ℕ → List (Step E V A) → Type 0
  IsFullOnlyAtLimit [] n count steps = Unit {0}
  IsFullOnlyAtLimit (h ∷ H) n count steps =
      if_true (h.thread == n)
      ((found_full steps ≡ true → HasReached rules.limit count)
      × IsFullOnlyAtLimit H n (suc count) (after_first_act steps))
      (IsFullOnlyAtLimit H n (suc count) steps)

  -- Each entry found room.
  abbrev pub IsWithinLimit : List (Entry E V A) → ℕ → Type 0
  IsWithinLimit [] count = Unit {0}
  IsWithinLimit (h ∷ H) count = HasRoom rules.limit (is_act_exempt h.act) count × IsWithinLimit H (suc count)

-- Tries are lost only where that can be, and the log is full only where it has a limit.
abbrev pub MayMark : Bool → Option ℕ → Kind → Type 0
MayMark loses limit Turn = Unit {0}
MayMark loses limit Loses = loses ≡ true
MayMark loses limit Fills = limit ≢ None

abbrev pub MayMarkAll : Bool → Option ℕ → List Mark → Type 0
MayMarkAll loses limit [] = Unit {0}
MayMarkAll loses limit (k ∷ S) = MayMark loses limit k.kind × MayMarkAll loses limit S
