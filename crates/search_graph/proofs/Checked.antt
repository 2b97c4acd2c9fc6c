-- What the checks of ranks and of walks answer.
use Rattle.std.specs.Prelude.{◌≡◌, ◌<◌, ℕ, Bool, true, false, List, All, Contains, length, refl}
use Rattle.std.specs.List.{Any}
use Rattle.std.proofs.lemmas.List.Elements.{All-contains, All-map, All-weaker, Contains-get_or}
use Rattle.search_graph.specs.declared.graph.Move.{Move}
use Rattle.search_graph.specs.Graph.{IsWithin, IsMarked, CanMove, move_at}
use Rattle.search_graph.specs.Ranks.{Falls, AreRanks, mover_at}
use Rattle.search_graph.specs.Round.{moves_at}

pub sure : (b : Bool) → (b ≡ false → ⊥) → b ≡ true
sure true n = refl
sure false n = absurd (n refl)

-- Where all marks are set there is no state without one.
module _ (moves : List Move) (ranks movers : List ℕ) (states : ℕ) (marks : List Bool) where
  pub are-ranks : length ranks ≡ states → All (Falls ranks movers) moves → ((s : ℕ) → IsMarked marks s → CanMove moves s (mover_at ranks movers s))
      → All (λ m. IsMarked marks m.from) moves → AreRanks moves states ranks movers
  are-ranks len falls can marked = record {
    len = len;
    falls = falls;
    can = All-weaker (λ m. IsMarked marks m.from) (λ m. CanMove moves m.from (mover_at ranks movers m.from)) (λ m. can m.from) moves marked;
  }

  pub none-unmarked : AreRanks moves states ranks movers → ((s : ℕ) → CanMove moves s (mover_at ranks movers s) → IsMarked marks s)
      → Any (λ m. IsMarked marks m.from → ⊥) moves → ⊥
  none-unmarked ok all some =
      some.4 (all some.1.from (All-contains (λ m. CanMove moves m.from (mover_at ranks movers m.from)) moves some.1 ok.can (some.0, some.2, some.3)))

-- The moves of indices are among the moves.
pub among-moves : (moves : List Move) (indices : List ℕ) → All (λ k. k < length moves) indices → All (Contains moves) (moves_at moves indices)
among-moves moves indices within = All-map (Contains moves) (move_at moves) indices
    (All-weaker (λ k. k < length moves) (λ k. Contains moves (move_at moves k)) (λ k h. Contains-get_or moves k (record { from = 0; thread = 0; next = 0 }) h)
    indices within)

-- So they are between states where all are.
pub within-states : (moves : List Move) (states : ℕ) (indices : List ℕ) → All (IsWithin states) moves → All (λ k. k < length moves) indices
    → All (IsWithin states) (moves_at moves indices)
within-states moves states indices all within =
    All-weaker (Contains moves) (IsWithin states) (λ m h. All-contains (IsWithin states) moves m all h) (moves_at moves indices)
    (among-moves moves indices within)
