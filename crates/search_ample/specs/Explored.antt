-- What was explored of a system, all by numbers, and what each thread may still do from there.
use Rattle.std.specs.Prelude.{◌≡◌, ◌<◌, ℕ, Bool, true, List, Contains}
use Rattle.search_graph.specs.declared.graph.Move.{Move}
use Rattle.search_graph.specs.Graph.{Moves}
use Rattle.search_ample.specs.Systems.{System, CanGo}

-- States and threads are the numbers below these, and what steps do has numbers too. `moves`: the moves that were
-- explored. `can`, `wants` and `heeds`: of a thread at a state, whether it can go on, and all that it wants and heeds
-- there. `conflicts`: of two things that steps do. And a guess, which nobody has to trust: `goes`, that the thread is
-- one of those that go on there; `may`, its footprint, which is what it may still want; and `rank`, of a state for a
-- thread.
pub record Explored : Type 0 where
  pub states : ℕ
  pub threads : ℕ
  pub moves : List Move
  pub can : ℕ → ℕ → Bool
  pub wants : ℕ → ℕ → List ℕ
  pub heeds : ℕ → ℕ → List ℕ
  pub conflicts : ℕ → ℕ → Bool
  pub goes : ℕ → ℕ → Bool
  pub may : ℕ → ℕ → ℕ → Bool
  pub rank : ℕ → ℕ → ℕ

-- What the numbers are of: `stands i s`, that state i stands for s; and `names p a`, that p is the number of a.
pub record Meaning (S A : Type 0) : Type 1 where
  pub stands : ℕ → S → Type 0
  pub names : ℕ → A → Type 0

-- It is among these numbers.
pub record IsListed {S A : Type 0} (m : Meaning S A) (a : A) (ps : List ℕ) : Type 0 where
  pub number : ℕ
  pub names : m.names number a
  pub among : Contains ps number

-- Each state has what the threads are there, and an explored move is the thread's step from there to what the next
-- state stands for.
pub record IsExploredOf {S A : Type 0} (k : System S A) (m : Meaning S A) (e : Explored) : Type 0 where
  pub among : (i : ℕ) (s : S) → m.stands i s → k.among s
  pub state : (i : ℕ) (s : S) → m.stands i s → i < e.states
  pub few : (s : S) (n : ℕ) → k.among s → CanGo k s n → n < e.threads
  pub few_want : (s : S) (n : ℕ) (a : A) → k.among s → k.wants s n a → n < e.threads
  pub can : (i n : ℕ) (s : S) → m.stands i s → CanGo k s n → e.can i n ≡ true
  pub wants : (i n : ℕ) (s : S) (a : A) → m.stands i s → k.wants s n a → IsListed m a (e.wants i n)
  pub heeds : (i n : ℕ) (s : S) (a : A) → m.stands i s → k.heeds s n a → IsListed m a (e.heeds i n)
  pub conflicts : (p q : ℕ) (a b : A) → m.names p a → m.names q b → k.conflict a b → e.conflicts p q ≡ true
  pub leads : (i n j : ℕ) (s : S) → m.stands i s → Moves e.moves i n j → (z : S) × k.steps n s z × m.stands j z
