-- Whether runs can still end, where only some threads go on.
use Rattle.std.specs.Prelude.{◌↔◌, ℕ, Bool, List}
use Rattle.search_graph.specs.Paths.{Reaches}
use Rattle.search_graph.specs.Graph.{Steps, CanEnd, IsMarked}
use Rattle.search_ample.specs.Systems.{System, IsOver, Runs}
use Rattle.search_ample.specs.Explored.{Explored, Meaning}
use Rattle.search_ample.specs.Found.{IsRun}

-- Explored moves lead to a marked state from all that they lead to.
abbrev pub CanAllEnd : Explored → List Bool → ℕ → Type 0
CanAllEnd e ended i = (j : ℕ) → Reaches (Steps e.moves) i j → CanEnd e.moves ended j

module _ {S A : Type 0} (k : System S A) (m : Meaning S A) (e : Explored) where
  -- Some run leads from there to where nobody can go on.
  pub record ComesToEnd (z : S) : Type 0 where
    pub run : List ℕ
    pub end : S
    pub among : k.among end
    pub runs : Runs k z run end
    pub over : IsOver k end

  -- Those of the explored states are marked at which nobody can go on.
  abbrev pub MarkEnds : List Bool → Type 0
  MarkEnds ended = (i : ℕ) (s : S) → m.stands i s → IsMarked ended i ↔ IsOver k s

  -- Explored moves lead from a state to a marked one just where a run leads to an end; and where they do from all
  -- that they lead to, each run can still end.
  abbrev pub EndsAreExact : Type 0
  EndsAreExact = (ended : List Bool) → MarkEnds ended → (i : ℕ) (s : S) → m.stands i s
      → CanEnd e.moves ended i ↔ ComesToEnd s

  abbrev pub AllComeToEnds : Type 0
  AllComeToEnds = (ended : List Bool) → MarkEnds ended → (i : ℕ) (s : S) (ns : List ℕ) (z : S) → IsRun k m e i s ns z
      → CanAllEnd e ended i → ComesToEnd z
