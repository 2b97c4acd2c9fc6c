-- Threads that make steps one at a time, and which of their steps are independent. Types: states S, and A for what a
-- step does.
use Rattle.std.specs.Prelude.{◌≢◌, ◌⊎◌, ◌↔◌, ℕ, List, [], ◌∷◌}

-- `steps`: from which state to which the thread makes its next step. `wants`: what all the thread does by that step,
-- as it would be made now. `heeds`: what another one's step has to do to wake the thread or start it. `conflict`:
-- that the two aren't independent. `among`: the states that are meant. `alike`: nobody tells the two states apart.
pub record System (S A : Type 0) : Type 1 where
  pub steps : ℕ → S → S → Type 0
  pub wants : S → ℕ → A → Type 0
  pub heeds : S → ℕ → A → Type 0
  pub conflict : A → A → Type 0
  pub among : S → Type 0
  pub alike : S → S → Type 0

module _ {S A : Type 0} (k : System S A) where
  abbrev pub CanGo : S → ℕ → Type 0
  CanGo s n = (z : S) × k.steps n s z

  -- It can, or wants something.
  abbrev pub IsAwake : S → ℕ → Type 0
  IsAwake s n = CanGo s n ⊎ ((a : A) × k.wants s n a)

  -- Nobody can go on there.
  abbrev pub IsOver : S → Type 0
  IsOver s = (n : ℕ) → CanGo s n → ⊥

  -- A run: threads make steps in this order, up to a state or to one that nobody tells apart from it.
  abbrev pub Runs : S → List ℕ → S → Type 0
  Runs s [] z = k.alike s z
  Runs s (n ∷ ns) z = (v : S) × k.steps n s v × Runs v ns z

  -- What the thread wants or heeds.
  abbrev pub Minds : S → ℕ → A → Type 0
  Minds s n a = k.wants s n a ⊎ k.heeds s n a

  -- The thread is the same at both states.
  pub record IsSame (s z : S) (n : ℕ) : Type 0 where
    pub can : CanGo s n ↔ CanGo z n
    pub wants : (a : A) → k.wants s n a ↔ k.wants z n a
    pub heeds : (a : A) → k.heeds s n a ↔ k.heeds z n a

  -- Nothing that thread u does by its step conflicts with what thread n wants or heeds.
  abbrev pub AreApart : S → ℕ → ℕ → Type 0
  AreApart s n u = (a b : A) → Minds s n a → k.wants s u b → k.conflict a b → ⊥

  -- Steps don't leave the states that are meant, and a thread makes one step alone; being alike is an equivalence that
  -- steps keep.
  pub record AreStates : Type 0 where
    pub among : (n : ℕ) (s z : S) → k.among s → k.steps n s z → k.among z
    pub one : (n : ℕ) (s z v : S) → k.among s → k.steps n s z → k.steps n s v → k.alike z v
    pub itself : (s : S) → k.alike s s
    pub back : (s z : S) → k.alike s z → k.alike z s
    pub in_turn : (s z v : S) → k.alike s z → k.alike z v → k.alike s v
    pub same : (s z : S) (n : ℕ) → k.among s → k.among z → k.alike s z → IsSame s z n
    pub steps : (n : ℕ) (s z v : S) → k.among s → k.among z → k.alike s z → k.steps n s v
        → (w : S) × k.steps n z w × k.alike v w

  -- Where thread u makes a step that is apart from thread n, and some other thread is awake too, thread n stays the
  -- same. Two steps that are apart may be made in either order. And what thread n wants it still wants behind thread
  -- u's step, or it wants something there that conflicts with this. Who wants something heeds nothing.
  pub record AreIndependent : Type 0 where
    pub states : AreStates
    pub mutual_is : (a b : A) → k.conflict a b → k.conflict b a
    pub kept : (s z : S) (n u other : ℕ) → k.among s → u ≢ n → u ≢ other → IsAwake s other → k.steps u s z
        → AreApart s n u → IsSame s z n
    pub swap : (s z v : S) (n u : ℕ) → k.among s → u ≢ n → k.steps n s z → k.steps u s v → AreApart s n u
        → (x : S) × (y : S) × k.steps n v x × k.steps u z y × k.alike x y
    pub still : (s z : S) (n u : ℕ) (a : A) → k.among s → u ≢ n → k.steps u s z → k.wants s n a
        → k.wants z n a ⊎ ((c : A) × (b : A) × k.wants z n c × k.wants s u b × k.conflict b c)
    pub awake : (s : S) (n : ℕ) (a b : A) → k.among s → k.wants s n a → k.heeds s n b → ⊥
