-- What is found of all runs of turns, where only steps were explored, and only of some threads.
use Rattle.std.specs.Prelude.{◌≡◌, ◌≢◌, ℕ, Bool, true, Some, None, List, [], ◌∷◌}
use Rattle.search_ample.specs.Systems.{CanGo}
use Rattle.search_ample.specs.Explored.{Explored, Meaning, IsExploredOf}
use Rattle.search_ample.specs.Ample.{IsAmple}
use Rattle.search_ample.specs.Found.{IsFound, WantIsFound, BothAreFound}
use Rattle.search_ample.specs.Ending.{MarkEnds, CanAllEnd}
use Rattle.search_ample.specs.Turns.{TurnSystem, ComesToWant, steps_of, AreTurns}

module _ {S A : Type 0} (t : TurnSystem S A) where
  -- Threads make turns in this order, up to a state or to one that nobody tells apart from it.
  abbrev pub TurnRuns : S → List ℕ → S → Type 0
  TurnRuns s [] z = t.alike s z
  TurnRuns s (n ∷ ns) z = (a : A) × (t.wants s n ≡ Some a) × TurnRuns (t.next s n) ns z

  -- Nobody can go on.
  abbrev pub IsStopped : S → Type 0
  IsStopped z = (n : ℕ) → t.wants z n ≡ None

  -- No two threads come to want what conflicts where the one is plain.
  abbrev pub NoneRaceAt : S → Type 0
  NoneRaceAt s = (n u : ℕ) (a b : A) → u ≢ n → ComesToWant t s n a → ComesToWant t s u b → t.plain a ≡ true
      → t.conflict a b ≡ true → ⊥

  module _ (m : Meaning S A) (e : Explored) where
    -- It is so wherever was explored.
    abbrev pub NoneRaceThere : Type 0
    NoneRaceThere = (i : ℕ) (s : S) → m.stands i s → NoneRaceAt s

    -- Each thread that can make a turn where something was explored can make a step.
    abbrev pub AllStepThere : Type 0
    AllStepThere = (i : ℕ) (s : S) (n : ℕ) (a : A) → m.stands i s → t.wants s n ≡ Some a → CanGo (steps_of t) s n

    pub record IsTurnRun (i : ℕ) (s : S) (ns : List ℕ) (z : S) : Type 0 where
      pub begins : m.stands i s
      pub runs : TurnRuns s ns z
      pub among : t.among z

    -- Each end of a run of turns is found. So is each turn that a thread wants next, and each two that conflict, if two
    -- threads want them next; and so none races. And a run can still end, if that is so of each explored state that the
    -- first one leads to.
    abbrev pub TurnEndsAreFound : Type 0
    TurnEndsAreFound = (i : ℕ) (s : S) (ns : List ℕ) (z : S) → IsTurnRun i s ns z → IsStopped z
        → IsFound (steps_of t) m e i z

    abbrev pub TurnWantsAreFound : Type 0
    TurnWantsAreFound = (i : ℕ) (s : S) (ns : List ℕ) (z : S) → IsTurnRun i s ns z
        → (n : ℕ) (a : A) → t.wants z n ≡ Some a → WantIsFound (steps_of t) m e i n a

    abbrev pub TurnConflictsAreFound : Type 0
    TurnConflictsAreFound = (i : ℕ) (s : S) (ns : List ℕ) (z : S) → IsTurnRun i s ns z
        → (n u : ℕ) (a b : A) → t.wants z n ≡ Some a → t.wants z u ≡ Some b → t.conflict a b ≡ true
        → BothAreFound (steps_of t) m e i n u a b

    abbrev pub NoTurnsRace : Type 0
    NoTurnsRace = (i : ℕ) (s : S) (ns : List ℕ) (z : S) → IsTurnRun i s ns z
        → (n u : ℕ) (a b : A) → u ≢ n → t.wants z n ≡ Some a → t.wants z u ≡ Some b → t.plain a ≡ true
        → t.conflict a b ≡ true → ⊥

    -- Each thread that can make a turn, in whatever run, comes to an event.
    abbrev pub AllStep : Type 0
    AllStep = AllStepThere → (i : ℕ) (s : S) (ns : List ℕ) (z : S) → IsTurnRun i s ns z
        → (n : ℕ) (a : A) → t.wants z n ≡ Some a → CanGo (steps_of t) z n

    pub record ComesToStop (z : S) : Type 0 where
      pub run : List ℕ
      pub end : S
      pub among : t.among end
      pub runs : TurnRuns z run end
      pub stopped : IsStopped end

    abbrev pub AllComeToStop : Type 0
    AllComeToStop = AllStepThere → (ended : List Bool) → MarkEnds (steps_of t) m e ended
        → (i : ℕ) (s : S) (ns : List ℕ) (z : S) → IsTurnRun i s ns z → CanAllEnd e ended i → ComesToStop z

-- It is so of whatever was explored of the steps of threads whose turns keep the laws, where the check of the guess
-- passes and none race.
abbrev pub WhereNoneRace : {S A : Type 0} → (TurnSystem S A → Meaning S A → Explored → Type 0) → TurnSystem S A → Meaning S A → Type 0
WhereNoneRace P t m = (e : Explored) → AreTurns t → IsExploredOf (steps_of t) m e → IsAmple e → NoneRaceThere t m e
    → P t m e
