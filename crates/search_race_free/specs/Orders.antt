-- Threads that make plain accesses, one after another.
use Rattle.std.specs.Prelude.{ℕ, ◌≡◌, ◌≢◌, ◌==◌, suc, cond, Option, Some, List, [], ◌∷◌}
use Rattle.search_settled.specs.declared.access.NextAccess.{NextAccess}
use Rattle.search_settled.specs.Accesses.{IsPlain}

-- How often a thread's number is there.
abbrev pub times : ℕ → List ℕ → ℕ
times t [] = 0
times t (u ∷ us) = cond (u == t) (suc (times t us)) (times t us)

-- `wants w t`: what thread t does next, if it can go on; `next w t`: the world after that.
module _ {W : Type 0} (wants : W → ℕ → Option NextAccess) (next : W → ℕ → W) where
  -- The next turn of thread t is plain, and among what is its own.
  pub record MakesOwn (own : ℕ → NextAccess → Type 0) (w : W) (t : ℕ) : Type 0 where
    pub access : NextAccess
    pub wanted : wants w t ≡ Some access
    pub plain : IsPlain access
    pub is_own : own t access

  -- Turns of these threads, in this order, lead from one world to the other, each plain and its thread's own.
  abbrev pub MakesPlain : (ℕ → NextAccess → Type 0) → List ℕ → W → W → Type 0
  MakesPlain own [] w z = w ≡ z
  MakesPlain own (t ∷ ts) w z = MakesOwn own w t × MakesPlain own ts (next w t) z

  -- The next turn of some other thread.
  pub record StepsWithout (one : ℕ) (w z : W) : Type 0 where
    pub thread : ℕ
    pub access : NextAccess
    pub wanted : wants w thread ≡ Some access
    pub other : thread ≢ one
    pub leads : z ≡ next w thread

  -- The next turn of some thread, which is plain if the thread is this one.
  pub record StepsPlainly (one : ℕ) (w z : W) : Type 0 where
    pub thread : ℕ
    pub access : NextAccess
    pub wanted : wants w thread ≡ Some access
    pub plain : thread ≡ one → IsPlain access
    pub leads : z ≡ next w thread
