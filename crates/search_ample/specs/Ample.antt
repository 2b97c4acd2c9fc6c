-- That it is enough if only some threads go on: what is checked of a guess, state by state and move by move.
use Rattle.std.specs.Prelude.{◌≡◌, ◌<◌, ◌⊎◌, ℕ, true, false, Contains}
use Rattle.search_graph.specs.Graph.{Moves, CanMove}
use Rattle.search_ample.specs.Explored.{Explored}

module _ (e : Explored) where
  -- The thread can go on there, and isn't one of those that do.
  pub record IsWaiting (i n : ℕ) : Type 0 where
    pub state : i < e.states
    pub few : n < e.threads
    pub can : e.can i n ≡ true
    pub waits : e.goes i n ≡ false

  -- An explored move of a thread that goes on there leads to a state of a smaller rank for the other one.
  pub record Nears (i n : ℕ) : Type 0 where
    pub thread : ℕ
    pub few : thread < e.threads
    pub goes : e.goes i thread ≡ true
    pub next : ℕ
    pub move : Moves e.moves i thread next
    pub falls : e.rank next n < e.rank i n

  pub record IsAmple : Type 0 where
    -- each thread that goes on is followed
    pub followed : (i n : ℕ) → i < e.states → n < e.threads → e.goes i n ≡ true → e.can i n ≡ true → CanMove e.moves i n
    -- a thread's footprint has what it wants, and what it has behind each move
    pub wanted : (i n p : ℕ) → i < e.states → n < e.threads → Contains (e.wants i n) p → e.may i n p ≡ true
    pub kept : (i t j n p : ℕ) → Moves e.moves i t j → n < e.threads → e.may j n p ≡ true → e.may i n p ≡ true
    -- what a thread that goes on wants or heeds conflicts with nothing that another one may still want
    pub apart : (i n u p q : ℕ) → i < e.states → n < e.threads → u < e.threads → e.goes i n ≡ true → e.goes i u ≡ false
        → Contains (e.wants i n) p ⊎ Contains (e.heeds i n) p → e.may i u q ≡ true → e.conflicts p q ≡ true → ⊥
    -- a thread that waits isn't put off for ever
    pub nears : (i n : ℕ) → IsWaiting i n → Nears i n
