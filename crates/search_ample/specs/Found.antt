-- What is found of all runs where only some threads go on.
use Rattle.std.specs.Prelude.{◌≡◌, ℕ, true, List}
use Rattle.search_graph.specs.Paths.{Reaches}
use Rattle.search_graph.specs.Graph.{Steps}
use Rattle.search_ample.specs.Systems.{System, CanGo, IsOver, Runs, AreIndependent}
use Rattle.search_ample.specs.Explored.{Explored, Meaning, IsExploredOf}
use Rattle.search_ample.specs.Ample.{IsAmple}

module _ {S A : Type 0} (k : System S A) (m : Meaning S A) (e : Explored) where
  -- Explored moves lead from the state to one that stands for this, or for what nobody tells apart from it.
  pub record IsFound (i : ℕ) (z : S) : Type 0 where
    pub state : ℕ
    pub path : Reaches (Steps e.moves) i state
    pub world : S
    pub is : m.stands state world
    pub alike : k.alike z world

  -- They lead to one at which the thread wants this.
  pub record WantIsFound (i n : ℕ) (a : A) : Type 0 where
    pub state : ℕ
    pub path : Reaches (Steps e.moves) i state
    pub world : S
    pub is : m.stands state world
    pub wants : k.wants world n a

  -- They lead to one at which both want these, each its own.
  pub record BothAreFound (i n u : ℕ) (a b : A) : Type 0 where
    pub state : ℕ
    pub path : Reaches (Steps e.moves) i state
    pub world : S
    pub is : m.stands state world
    pub one : k.wants world n a
    pub other : k.wants world u b

  -- A run leads from what the state stands for to this.
  pub record IsRun (i : ℕ) (s : S) (ns : List ℕ) (z : S) : Type 0 where
    pub begins : m.stands i s
    pub runs : Runs k s ns z
    pub among : k.among z

  -- The thread's footprint has it.
  pub record IsInFootprint (i n : ℕ) (a : A) : Type 0 where
    pub number : ℕ
    pub names : m.names number a
    pub may : e.may i n number ≡ true

  -- What a thread wants at a run's end its footprint had at the beginning.
  abbrev pub FootprintsHold : Type 0
  FootprintsHold = (i : ℕ) (s : S) (ns : List ℕ) (z : S) → IsRun i s ns z
      → (n : ℕ) (a : A) → k.wants z n a → IsInFootprint i n a

  -- Each run's end at which nobody can go on is found.
  abbrev pub EndsAreFound : Type 0
  EndsAreFound = (i : ℕ) (s : S) (ns : List ℕ) (z : S) → IsRun i s ns z → IsOver k z → IsFound i z

  -- So is all that threads want in any run; and where two want what conflicts, that is found of both at once.
  abbrev pub WantsAreFound : Type 0
  WantsAreFound = (i : ℕ) (s : S) (ns : List ℕ) (z : S) → IsRun i s ns z
      → (n : ℕ) (a : A) → k.wants z n a → WantIsFound i n a

  abbrev pub ConflictsAreFound : Type 0
  ConflictsAreFound = (i : ℕ) (s : S) (ns : List ℕ) (z : S) → IsRun i s ns z
      → (n u : ℕ) (a b : A) → k.wants z n a → k.wants z u b → k.conflict a b → BothAreFound i n u a b

  -- A run goes on from there to what is found.
  pub record ComesBack (i : ℕ) (z : S) : Type 0 where
    pub run : List ℕ
    pub end : S
    pub among : k.among end
    pub runs : Runs k z run end
    pub found : IsFound i end

  abbrev pub AllComeBack : Type 0
  AllComeBack = (i : ℕ) (s : S) (ns : List ℕ) (z : S) → IsRun i s ns z → ComesBack i z

  -- Where each thread that wants something at an explored state can go on there, each can in all runs.
  abbrev pub AllCanThere : Type 0
  AllCanThere = (i : ℕ) (s : S) → m.stands i s → (n : ℕ) (a : A) → k.wants s n a → CanGo k s n

  abbrev pub AllCanGoOn : Type 0
  AllCanGoOn = AllCanThere → (i : ℕ) (s : S) (ns : List ℕ) (z : S) → IsRun i s ns z
      → (n : ℕ) (a : A) → k.wants z n a → CanGo k z n

-- It is so of whatever was explored of a system whose steps are independent; and where the check of the guess passes.
abbrev pub WhereExplored : {S A : Type 0} → (System S A → Meaning S A → Explored → Type 0) → System S A → Meaning S A → Type 0
WhereExplored P k m = (e : Explored) → AreIndependent k → IsExploredOf k m e → P k m e

abbrev pub WhereAmple : {S A : Type 0} → (System S A → Meaning S A → Explored → Type 0) → System S A → Meaning S A → Type 0
WhereAmple P = WhereExplored (λ k m e. IsAmple e → P k m e)
