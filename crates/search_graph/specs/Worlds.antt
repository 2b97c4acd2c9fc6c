-- Worlds between which threads make steps, and what the states of a graph have to do with them.
use Rattle.std.specs.Prelude.{◌≡◌, ◌≢◌, ◌<◌, ◌≤◌, ◌⊎◌, ℕ, suc, List}
use Rattle.search_graph.specs.Paths.{Reaches}
use Rattle.search_graph.specs.Graph.{Moves, CanMove}
use Rattle.search_graph.specs.Runs.{HasFairCycle}
use Rattle.search_graph.specs.declared.graph.Move.{Move}

-- Which steps thread n makes, and whether it can go on.
pub record Worlds (W : Type 0) : Type 1 where
  pub steps : ℕ → W → W → Type 0
  pub can : W → ℕ → Type 0

module _ {W : Type 0} (worlds : Worlds W) where
  -- A run without end: at each moment a thread that can go on makes a step.
  pub record EndlessRun : Type 0 where
    pub at : ℕ → W
    pub by : ℕ → ℕ
    pub goes : (k : ℕ) → worlds.can (at k) (by k)
    pub makes : (k : ℕ) → worlds.steps (by k) (at k) (at (suc k))

  -- The thread makes a step at this moment or later.
  pub record GetsStep (run : EndlessRun) (k t : ℕ) : Type 0 where
    pub later : ℕ
    pub since : k ≤ later
    pub is : run.by later ≡ t

  -- Each thread that can go on makes a step then or later.
  abbrev pub IsFairRun : EndlessRun → Type 0
  IsFairRun run = (k t : ℕ) → worlds.can (run.at k) t → GetsStep run k t

  -- A fair run without end begins there.
  pub record FairRun (w : W) : Type 0 where
    pub run : EndlessRun
    pub begins : run.at 0 ≡ w
    pub fair : IsFairRun run

  -- A thread that can go on makes a step from the one to the other.
  pub record CanStep (w z : W) : Type 0 where
    pub thread : ℕ
    pub can : worlds.can w thread
    pub is : worlds.steps thread w z

  -- Among these worlds, which steps don't leave, a thread that can go on can until it makes a step.
  pub record Persists (among : W → Type 0) : Type 0 where
    pub kept : (t : ℕ) (w z : W) → among w → worlds.can w t → worlds.steps t w z → among z
    pub still : (t u : ℕ) (w z : W) → among w → worlds.can w t → worlds.steps t w z → u ≢ t → worlds.can w u
        → worlds.can z u

  -- A fair run begins wherever threads that can go on come from there to a world at which one begins.
  abbrev pub FairRunsBeginBefore : (W → Type 0) → Type 0
  FairRunsBeginBefore among = (w z : W) → among w → Reaches CanStep w z → FairRun z → FairRun w

  -- `stands s w left`: the state s stands for w, and thread n makes `left n` steps that nobody else sees before its
  -- next move.
  module _ (stands : ℕ → W → (ℕ → ℕ) → Type 0) where
    -- The step is one that nobody else sees: s stands for z too, thread t has fewer of them left, and no other thread
    -- has more.
    pub record Stays (s t : ℕ) (z : W) (left : ℕ → ℕ) : Type 0 where
      pub after : ℕ → ℕ
      pub within : stands s z after
      pub fewer : after t < left t
      pub others : (u : ℕ) → u ≢ t → after u ≤ left u

    -- The step is the thread's move. No other thread that has a move has more steps left; one that had none may, as one
    -- that is woken or begins.
    pub record Leads (moves : List Move) (s t : ℕ) (z : W) (left : ℕ → ℕ) : Type 0 where
      pub next : ℕ
      pub move : Moves moves s t next
      pub after : ℕ → ℕ
      pub within : stands next z after
      pub others : (u : ℕ) → u ≢ t → CanMove moves s u → after u ≤ left u

    -- The graph has the steps of the worlds: each stays or is a move, a thread with a move can go on, and so can only
    -- threads below `most`.
    pub record IsGraphOf (most : ℕ) (moves : List Move) : Type 0 where
      pub few : (s t : ℕ) (w : W) (left : ℕ → ℕ) → stands s w left → worlds.can w t → t < most
      pub step : (s t : ℕ) (w z : W) (left : ℕ → ℕ) → stands s w left → worlds.can w t → worlds.steps t w z
          → Stays s t z left ⊎ Leads moves s t z left
      pub goes_on : (s t : ℕ) (w : W) (left : ℕ → ℕ) → stands s w left → CanMove moves s t → worlds.can w t

    -- No fair run begins in a world that a state stands for.
    abbrev pub NoFairRun : Type 0
    NoFairRun = (s : ℕ) (w : W) (left : ℕ → ℕ) → stands s w left → FairRun w → ⊥

  -- `rests s w`: the state s stands for w, and no thread has steps left there that nobody sees.
  module _ (rests : ℕ → W → Type 0) where
    -- Threads that can go on come from w to what the next state stands for; the first step is of thread t.
    pub record MakesMove (t next : ℕ) (w : W) : Type 0 where
      pub can : worlds.can w t
      pub second : W
      pub is : worlds.steps t w second
      pub end : W
      pub path : Reaches CanStep second end
      pub rest : rests next end

    -- The worlds make the moves of the graph: each, and no thread can go on that has none.
    pub record IsMadeOf (among : W → Type 0) (moves : List Move) : Type 0 where
      pub persists : Persists among
      pub inside : (s : ℕ) (w : W) → rests s w → among w
      pub makes : (s t next : ℕ) (w : W) → Moves moves s t next → rests s w → MakesMove t next w
      pub all : (s u : ℕ) (w : W) → rests s w → worlds.can w u → CanMove moves s u

    -- A fair run begins in each world that a state stands for, where a fair run of the graph goes round from there.
    abbrev pub CyclesAreRuns : List Move → Type 0
    CyclesAreRuns moves =
        (start : ℕ) (walk : List Move) → HasFairCycle moves start walk → (w : W) → rests start w → FairRun w
