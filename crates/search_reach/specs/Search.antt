-- What an exhaustive search shows: concrete states stand for worlds, between which threads make steps.
use Rattle.std.specs.Prelude.{◌≡◌, ◌≢◌, ◌≤◌, ◌<◌, ◌⊎◌, ℕ, Bool, true, Option, Some, List, take, Contains}
use Rattle.std.specs.List.{slice_get, AllZip}
use Rattle.std.specs.Option.{is_some}
use Rattle.search_graph.specs.Paths.{Reaches}
use Rattle.search_graph.specs.Worlds.{Worlds, CanStep}
use Rattle.search_reach.specs.declared.explores.NextState.{NextState}

-- What is searched: worlds, between which threads make steps, and how many threads can go on at most; what a concrete
-- state stands for; where it begins, how a world has ended, and of which worlds nothing can be told.
--
-- `stands s w left`: the state s stands for the world w, in which thread n makes `left n` steps before it rests.
-- `follows s n x`: what else is known of s and its next state x by thread n.
pub record StepSystem (S W E : Type 0) : Type 1 where
  pub worlds : Worlds W
  pub most : ℕ
  pub stands : S → W → (ℕ → ℕ) → Type 0
  pub follows : S → ℕ → S → Type 0
  pub begins : W → Type 0
  pub ends : W → E → Type 0
  pub stuck : W → Type 0

-- One of the keys equals it.
pub record HasEqual {E : Type 0} (eq : E → E → Bool) (es : List E) (e : E) : Type 0 where
  pub key : E
  pub among : Contains es key
  pub is : eq e key ≡ true

-- One of these is of the thread.
pub record HasOf {S : Type 0} (xs : List (NextState S)) (thread : ℕ) : Type 0 where
  pub next : NextState S
  pub among : Contains xs next
  pub is : next.thread ≡ thread

-- Their threads ascend.
abbrev pub Ascend : {S : Type 0} → List (NextState S) → Type 0
Ascend xs = (i j : ℕ) (x y : NextState _) → i < j → slice_get xs i ≡ Some x → slice_get xs j ≡ Some y
    → x.thread < y.thread

-- They ascend, and each is below this number.
pub record AscendBelow {S : Type 0} (end : ℕ) (xs : List (NextState S)) : Type 0 where
  pub ascend : Ascend xs
  pub low : (x : NextState S) → Contains xs x → x.thread < end

module _ {S W E : Type 0} (k : StepSystem S W E) where
  -- A step of a thread.
  abbrev pub Steps : W → W → Type 0
  Steps w z = (n : ℕ) × k.worlds.steps n w z

  -- However many steps threads make before they rest.
  abbrev pub StandsFor : S → W → Type 0
  StandsFor s w = (left : ℕ → ℕ) × k.stands s w left

  -- None makes any.
  abbrev pub RestsIn : S → W → Type 0
  RestsIn s w = k.stands s w (λ (n : ℕ). 0)

  -- One of the states stands for it.
  pub record Covers (ks : List S) (w : W) : Type 0 where
    pub state : S
    pub among : Contains ks state
    pub is : StandsFor state w

  -- It can end so.
  pub record CanEnd (w : W) (e : E) : Type 0 where
    pub end : W
    pub path : Reaches Steps w end
    pub is : k.ends end e

  -- Something that can be reached from w is one of which nothing can be told.
  pub record GetsStuck (w : W) : Type 0 where
    pub end : W
    pub path : Reaches Steps w end
    pub is : k.stuck end

  -- All that the state stands for gets there.
  abbrev pub AllGetStuck : S → Type 0
  AllGetStuck s = (w : W) → StandsFor s w → GetsStuck w

  -- Something that can be reached is.
  pub record CanGetStuck : Type 0 where
    pub from : W
    pub begun : k.begins from
    pub gets : GetsStuck from

  -- The state stands for something that can be reached from w.
  pub record Comes (w : W) (s : S) : Type 0 where
    pub end : W
    pub path : Reaches Steps w end
    pub is : StandsFor s end

  -- The step of thread n stays within s: that thread has fewer steps left, and no other has more.
  pub record StaysIn (s : S) (n : ℕ) (z : W) (left : ℕ → ℕ) : Type 0 where
    pub after : ℕ → ℕ
    pub is : k.stands s z after
    pub fewer : after n < left n
    pub others : (u : ℕ) → u ≢ n → after u ≤ left u

  -- The step of thread n leads to its next state. No other thread with a next state has more steps left.
  pub record LeadsOn (xs : List (NextState S)) (n : ℕ) (z : W) (left : ℕ → ℕ) : Type 0 where
    pub next : NextState S
    pub among : Contains xs next
    pub by : next.thread ≡ n
    pub after : ℕ → ℕ
    pub is : k.stands next.state z after
    pub others : (u : ℕ) → u ≢ n → HasOf xs u → after u ≤ left u

  -- From w a step of thread n and then steps of threads that can go on come to where all rest in x.
  pub record ComesBy (n : ℕ) (w : W) (x : S) : Type 0 where
    pub can : k.worlds.can w n
    pub second : W
    pub is : k.worlds.steps n w second
    pub end : W
    pub path : Reaches (CanStep k.worlds) second end
    pub rest : RestsIn x end

  -- What is asked of the worlds that s stands for: a step of a thread that can't go on changes nothing; only few can; one
  -- that can go on can until it makes a step; and threads come to where all rest in s.
  pub record IsOrderly (s : S) : Type 0 where
    pub idles : (w z : W) (n : ℕ) → StandsFor s w → k.worlds.steps n w z → k.worlds.can w n ⊎ (z ≡ w)
    pub few : (w : W) (n : ℕ) → StandsFor s w → k.worlds.can w n → n < k.most
    pub persists : (w z : W) (n u : ℕ) → StandsFor s w → k.worlds.can w n → k.worlds.steps n w z → u ≢ n → k.worlds.can w u
        → k.worlds.can z u
    pub settles : (w : W) → StandsFor s w → (z : W) × Reaches (CanStep k.worlds) w z × RestsIn s z

  -- These are the next states of s, each with its thread, in the order of the threads. Each step of a thread that can go
  -- on stays within s or leads to one of them; and where all rest in s, the threads that can go on are theirs, and come to
  -- each. What else is known of next states is so.
  pub record AreNext (s : S) (xs : List (NextState S)) : Type 0 where
    pub orderly : IsOrderly s
    pub step : (w z : W) (left : ℕ → ℕ) (n : ℕ) → k.stands s w left → k.worlds.can w n → k.worlds.steps n w z
        → StaysIn s n z left ⊎ LeadsOn xs n z left
    pub goes_on : (w : W) → StandsFor s w → (x : NextState S) → Contains xs x → k.worlds.can w x.thread
    pub all : (w : W) → RestsIn s w → (n : ℕ) → k.worlds.can w n → HasOf xs n
    pub comes : (w : W) → RestsIn s w → (x : NextState S) → Contains xs x → ComesBy x.thread w x.state
    pub follow : (x : NextState S) → Contains xs x → k.follows s x.thread x.state
    pub ascend : Ascend xs

  -- This is a first state: it stands for all first worlds, and for one.
  pub record IsFirst (s : S) : Type 0 where
    pub all : (w : W) → k.begins w → StandsFor s w
    pub one : W
    pub begun : k.begins one

  -- It stands for something that can be reached.
  pub record IsMet (s : S) : Type 0 where
    pub from : W
    pub begun : k.begins from
    pub comes : Comes from s

  -- All that can be reached is stood for.
  abbrev pub IsAll : List S → Type 0
  IsAll ks = (w z : W) → k.begins w → Reaches Steps w z → Covers ks z

  -- Each state can be met.
  abbrev pub IsSound : List S → Type 0
  IsSound ks = (s : S) → Contains ks s → IsMet s

  -- Within what s stands for, w comes to where it has ended so.
  pub record ComesToEnd (s : S) (w : W) (e : E) : Type 0 where
    pub end : W
    pub path : Reaches Steps w end
    pub stands : StandsFor s end
    pub is : k.ends end e

  -- This is how s has ended: whatever it stands for that has ended, has ended so, and whatever it stands for comes to
  -- where it has.
  pub record IsEnding (s : S) (r : Option E) : Type 0 where
    pub all : (w : W) (e : E) → StandsFor s w → k.ends w e → r ≡ Some e
    pub sound : (w : W) (e : E) → StandsFor s w → r ≡ Some e → ComesToEnd s w e

  -- However something has ended that one of ks stands for, the list has it.
  abbrev pub AllEnds : (E → E → Bool) → List S → List E → Type 0
  AllEnds eq ks es = (s : S) → Contains ks s → (w : W) (e : E) → StandsFor s w → k.ends w e → HasEqual eq es e

  -- Something that can be reached has ended so.
  pub record IsEnd (e : E) : Type 0 where
    pub from : W
    pub begun : k.begins from
    pub can : CanEnd from e

  -- Each is an ending.
  abbrev pub AreEnds : List E → Type 0
  AreEnds es = (e : E) → Contains es e → IsEnd e

  -- Each is how one of these states has ended.
  abbrev pub AreEndsOf : List S → List E → Type 0
  AreEndsOf ks es = (e : E) → Contains es e → (s : S) × Contains ks s × IsEnding s (Some e)

  -- Each ending of what can be reached is there.
  abbrev pub HasAllEnds : (E → E → Bool) → List E → Type 0
  HasAllEnds eq es = (w z : W) (e : E) → k.begins w → Reaches Steps w z → k.ends z e → HasEqual eq es e

  -- This is how the state has ended, and the mark says whether it has.
  pub record IsMarkedSo (s : S) (mark : Bool) : Type 0 where
    pub ending : Option E
    pub is : IsEnding s ending
    pub mark_is : mark ≡ is_some ending

  -- The endings of the first i of ks, and a mark for each of these states.
  pub record Ended (eq : E → E → Bool) (ks : List S) (i : ℕ) (es : List E) (marks : List Bool) : Type 0 where
    pub all : AllEnds eq (take i ks) es
    pub sound : AreEnds es
    pub of : AreEndsOf ks es
    pub marks_are : AllZip IsMarkedSo (take i ks) marks
