-- Threads that make turns, one access at a time, of which some are plain. A step of a thread is then its plain turns
-- up to one that isn't, and that one.
use Rattle.std.specs.Prelude.{◌≡◌, ◌≢◌, ◌⊎◌, ◌↔◌, ℕ, zero, suc, Bool, true, false, Option, Some, None}
use Rattle.search_ample.specs.Systems.{System}

-- `wants`: what the thread does next, if it can go on; `next`: the state after that. The rest is as in a system.
pub record TurnSystem (S A : Type 0) : Type 1 where
  pub wants : S → ℕ → Option A
  pub heeds : S → ℕ → A → Type 0
  pub next : S → ℕ → S
  pub plain : A → Bool
  pub conflict : A → A → Bool
  pub among : S → Type 0
  pub alike : S → S → Type 0

module _ {S A : Type 0} (t : TurnSystem S A) where
  pub record IsPlainTurn (s : S) (n : ℕ) : Type 0 where
    pub act : A
    pub wants : t.wants s n ≡ Some act
    pub plain : t.plain act ≡ true

  pub record IsEvent (n : ℕ) (s z : S) : Type 0 where
    pub act : A
    pub wants : t.wants s n ≡ Some act
    pub event : t.plain act ≡ false
    pub is : t.next s n ≡ z

  -- Behind so many turns of the thread alone, each plain, it does this; or makes one that isn't plain, and comes to
  -- there.
  abbrev pub WantsIn : ℕ → ℕ → A → S → Type 0
  WantsIn zero n a s = t.wants s n ≡ Some a
  WantsIn (suc count) n a s = IsPlainTurn s n × WantsIn count n a (t.next s n)

  abbrev pub StepsIn : ℕ → ℕ → S → S → Type 0
  StepsIn zero n s z = IsEvent n s z
  StepsIn (suc count) n s z = IsPlainTurn s n × StepsIn count n (t.next s n) z

  pub record ComesToWant (s : S) (n : ℕ) (a : A) : Type 0 where
    pub count : ℕ
    pub is : WantsIn count n a s

  pub record MakesStep (n : ℕ) (s z : S) : Type 0 where
    pub count : ℕ
    pub is : StepsIn count n s z

  abbrev pub steps_of : System S A
  steps_of = record {
    steps = MakesStep;
    wants = ComesToWant;
    heeds = t.heeds;
    conflict = λ a b. t.conflict a b ≡ true;
    among = t.among;
    alike = t.alike;
  }

  -- Of states that nobody tells apart threads want and heed the same, and so their turns lead to such states.
  pub record AreTurnStates : Type 0 where
    pub among : (s : S) (n : ℕ) (a : A) → t.among s → t.wants s n ≡ Some a → t.among (t.next s n)
    pub itself : (s : S) → t.alike s s
    pub back : (s z : S) → t.alike s z → t.alike z s
    pub in_turn : (s z v : S) → t.alike s z → t.alike z v → t.alike s v
    pub wants : (s z : S) (n : ℕ) → t.among s → t.among z → t.alike s z → t.wants s n ≡ t.wants z n
    pub heeds : (s z : S) (n : ℕ) (a : A) → t.among s → t.among z → t.alike s z → t.heeds s n a → t.heeds z n a
    pub next : (s z : S) (n : ℕ) (a : A) → t.among s → t.among z → t.alike s z → t.wants s n ≡ Some a
        → t.alike (t.next s n) (t.next z n)

  -- A turn that doesn't conflict with what a thread wants leaves that as it is, and both may be made in either order.
  -- Where it does conflict, the thread still wants that, or what conflicts with the turn. One that can't go on stays
  -- so, if the turn doesn't conflict with what it heeds and some other thread can go on, too; or if it is plain. And
  -- behind a plain turn a thread can go on.
  pub record AreTurns : Type 0 where
    pub states : AreTurnStates
    pub mutual_is : (a b : A) → t.conflict a b ≡ true → t.conflict b a ≡ true
    pub kept : (s : S) (n u : ℕ) (a b : A) → t.among s → u ≢ n → t.wants s n ≡ Some a → t.wants s u ≡ Some b
        → t.conflict a b ≡ false → t.wants (t.next s u) n ≡ Some a
    pub swap : (s : S) (n u : ℕ) (a b : A) → t.among s → u ≢ n → t.wants s n ≡ Some a → t.wants s u ≡ Some b
        → t.conflict a b ≡ false → t.alike (t.next (t.next s u) n) (t.next (t.next s n) u)
    pub still : (s : S) (n u : ℕ) (a b : A) → t.among s → u ≢ n → t.wants s n ≡ Some a → t.wants s u ≡ Some b
        → (t.wants (t.next s u) n ≡ Some a) ⊎ ((c : A) × (t.wants (t.next s u) n ≡ Some c) × (t.conflict b c ≡ true))
    pub asleep : (s : S) (n u other : ℕ) (b d : A) → t.among s → u ≢ n → u ≢ other → t.wants s other ≡ Some d
        → t.wants s n ≡ None → t.wants s u ≡ Some b → ((a : A) → t.heeds s n a → t.conflict a b ≡ true → ⊥)
        → (t.wants (t.next s u) n ≡ None) × ((a : A) → t.heeds s n a ↔ t.heeds (t.next s u) n a)
    pub quiet : (s : S) (n u : ℕ) (b : A) → t.among s → u ≢ n → t.wants s n ≡ None → t.wants s u ≡ Some b
        → t.plain b ≡ true → t.wants (t.next s u) n ≡ None
    pub awake : (s : S) (n : ℕ) (a b : A) → t.among s → t.wants s n ≡ Some a → t.heeds s n b → ⊥
    pub goes_on : (s : S) (n : ℕ) (a : A) → t.among s → t.wants s n ≡ Some a → t.plain a ≡ true
        → (b : A) × (t.wants (t.next s n) n ≡ Some b)
