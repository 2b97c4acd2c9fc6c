-- What is said of the fair runs of a graph.
use Rattle.std.specs.Prelude.{◌↔◌, ℕ, List, Contains, map}
use Rattle.std.specs.List.Sorted.{IsStrictlyIncreasing}
use Rattle.search_graph.specs.declared.graph.Graph.{Graph}
use Rattle.search_graph.specs.declared.graph.Move.{Move}
use Rattle.search_graph.specs.Round.{moves_at, IsFairRound}
use Rattle.search_graph.specs.Runs.{EveryFairRunEnds, HasFairCycle}
use Rattle.search_fairness.specs.declared.hints.Hint.{Hint}
use Rattle.search_fairness.specs.declared.judged.Cycle as cycles
use Rattle.search_fairness.specs.declared.judged.Fairness.{Fairness}
use Rattle.search_fairness.specs.declared.judged.Fairness.TheVariants.{AllEnd, Cycle, Unknown}
use Rattle.search_fairness.specs.Hints.{IsRefused}

-- The numbers of a list, each once, in increasing order.
pub record AreEachOnce (found numbers : List ℕ) : Type 0 where
  pub rise : IsStrictlyIncreasing found
  pub same : (n : ℕ) → Contains found n ↔ Contains numbers n

-- The walk is a fair round, a fair run makes it again and again, and these are the threads and the states of its moves.
pub record IsCycle (moves : List Move) (c : cycles.Cycle) : Type 0 where
  pub round : IsFairRound moves c.start c.walk.items
  pub runs : HasFairCycle moves c.start (moves_at moves c.walk.items)
  pub threads : AreEachOnce c.threads.items (map (λ m. m.thread) (moves_at moves c.walk.items))
  pub states : AreEachOnce c.states.items (map (λ m. m.from) (moves_at moves c.walk.items))

-- What is said by a hint: "all end" says so, a cycle is one, and "unknown" is said where the hint shows neither.
abbrev pub Says : Graph → Hint → Fairness → Type 0
Says graph h AllEnd = EveryFairRunEnds graph.moves.items
Says graph h (Cycle c) = IsCycle graph.moves.items c
Says graph h Unknown = IsRefused graph h
