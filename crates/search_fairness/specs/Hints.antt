-- What may show whether every fair run ends, and when it doesn't.
use Rattle.std.specs.Prelude.{◌≡◌, ◌<◌, ℕ, List, length, slice_index}
use Rattle.search_graph.specs.declared.graph.Graph.{Graph}
use Rattle.search_graph.specs.declared.graph.Move.{Move}
use Rattle.search_graph.specs.declared.grouped.Grouped.{Grouped}
use Rattle.search_graph.specs.Ranks.{AreRanks}
use Rattle.search_graph.specs.Round.{IsFairRound}
use Rattle.search_fairness.specs.declared.components.Components.{Components}
use Rattle.search_fairness.specs.declared.hints.Hint.{Hint}
use Rattle.search_fairness.specs.declared.hints.Hint.TheVariants.{Ranks, Walk}
use Rattle.search_fairness.specs.Leaving.{IsMover, IsNeverLeft}

-- The ranks number components, of each of which this thread leaves it, or no state has a move.
pub record AreMovers (moves : List Move) (ranks movers : List ℕ) : Type 0 where
  pub out : Grouped
  pub found : Components
  pub of : found.of.items ≡ ranks
  pub len : length movers ≡ found.count
  pub each : (c : ℕ) → c < length movers → IsMover moves out found c (slice_index movers c)

-- No thread leaves some component.
pub record HasNoMover (moves : List Move) : Type 0 where
  pub out : Grouped
  pub found : Components
  pub component : ℕ
  pub none : IsNeverLeft moves out found component

abbrev pub IsHint : List Move → Hint → Type 0
IsHint moves (Ranks ranks movers) = AreMovers moves ranks.items movers.items
IsHint moves (Walk start walk) = HasNoMover moves

-- They are no ranks by which every fair run ends; it is no fair round.
abbrev pub IsRefused : Graph → Hint → Type 0
IsRefused graph (Ranks ranks movers) = AreRanks graph.moves.items graph.states ranks.items movers.items → ⊥
IsRefused graph (Walk start walk) = IsFairRound graph.moves.items start walk.items → ⊥
