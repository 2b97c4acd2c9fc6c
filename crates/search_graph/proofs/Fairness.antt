-- Ranks show that every fair run ends.
use Rattle.std.specs.Prelude.{◌≡◌, ◌<◌, ◌≤◌, ◌+◌, ◌-◌, ◌⊎◌, ℕ, zero, suc, Option, Some, None, List, slice_index, refl}
use Rattle.std.proofs.Common.{ap, subst, sym, inl, inr, arith}
use Rattle.std.proofs.lemmas.Bool.{cases_lt}
use Rattle.std.proofs.lemmas.List.Elements.{All-contains}
use Rattle.search_graph.specs.declared.graph.Move.{Move}
use Rattle.search_graph.specs.Graph.{Moves, CanMove, IsStill}
use Rattle.search_graph.proofs.Having.{ends-or-moves}
use Rattle.search_graph.specs.Ranks.{Falls, AreRanks, mover_at}
use Rattle.search_graph.specs.Runs.{Turns, Run, GetsTurn, IsFair, Ends, EveryFairRunEnds}

module _ (moves : List Move) (states : ℕ) (ranks movers : List ℕ) (ok : AreRanks moves states ranks movers) (run : Run moves) where
  down : (s t z : ℕ) → Moves moves s t z → slice_index ranks z ≤ slice_index ranks s
  down s t z h = (All-contains (Falls ranks movers) moves _ ok.falls h).down

  falls : (s z : ℕ) → Moves moves s (mover_at ranks movers s) z → slice_index ranks z < slice_index ranks s
  falls s z h = (All-contains (Falls ranks movers) moves _ ok.falls h).falls refl

  can : (s t : ℕ) → CanMove moves s t → CanMove moves s (mover_at ranks movers s)
  can s t c = All-contains (λ m. CanMove moves m.from (mover_at ranks movers m.from)) moves _ ok.can c.is

  -- The rank at a moment.
  abbrev rank : ℕ → ℕ
  rank k = slice_index ranks (run.at k)

  -- The thread that it names.
  abbrev named : ℕ → ℕ
  named k = mover_at ranks movers (run.at k)

  turn : (k : ℕ) → rank (suc k) ≤ rank k
  turn k = by (run.by k) (run.turns k)
    where
      by : (o : Option ℕ) → Turns moves (run.at k) o (run.at (suc k)) → rank (suc k) ≤ rank k
      by (Some t) m = down (run.at k) t (run.at (suc k)) m
      by None e = omega (arith, ap (slice_index ranks) e)

  -- It never rises.
  sinks : (more k j : ℕ) → j ≡ k + more → rank j ≤ rank k
  sinks zero k j e = let same : j ≡ k = omega arith in omega (arith, ap rank same)
  sinks (suc more) k j e = let rest = sinks more (suc k) j (omega arith) in omega (arith, turn k, rest)

  sinks-to : (k j : ℕ) → k ≤ j → rank j ≤ rank k
  sinks-to k j h = sinks (j - k) k j (omega arith)

  module _ (fair : IsFair moves run) where
    -- From any moment on, by induction on a bound of the rank.
    ends : (bound k : ℕ) → rank k < bound → Ends moves run
    ends zero k h = absurd (omega arith)
    ends (suc bound) k h = by (ends-or-moves moves (run.at k)) (λ j g. ends bound j g)
      where
        -- The named thread moves at this moment or has no move, and the rank is still the same.
        same : (j : ℕ) → rank j ≡ rank k → IsStill moves (run.at j) ⊎ ((t : ℕ) × CanMove moves (run.at j) t) →
            (run.by j ≡ Some (named k)) ⊎ (CanMove moves (run.at j) (named k) → ⊥)
            → ((i : ℕ) → rank i < bound → Ends moves run) → Ends moves run
        same j e (inl end) g rest = record { moment = j; is = end }
        same j e (inr c) (inl q) rest =
            let to : named k ≡ named j = ap (slice_index movers) (sym e) in
            let moved = subst (λ o. Turns moves (run.at j) o (run.at (suc j))) q (run.turns j) in
            rest (suc j) (omega (arith, falls (run.at j) (run.at (suc j)) (subst (λ v. Moves moves (run.at j) v (run.at (suc j))) to moved)))
        same j e (inr c) (inr not) rest =
            let to : named j ≡ named k = ap (slice_index movers) e in
            absurd (not (subst (λ v. CanMove moves (run.at j) v) to (can (run.at j) c.0 c.1)))

        later : (g : GetsTurn moves run k (named k)) → (rank g.later < rank k) ⊎ (rank k ≤ rank g.later) → ((i : ℕ) → rank i < bound → Ends moves run) →
            Ends moves run
        later g (inl less) rest = rest g.later (omega arith)
        later g (inr not) rest =
            let e : rank g.later ≡ rank k = omega (arith, sinks-to k g.later g.since) in
            same g.later e (ends-or-moves moves (run.at g.later)) g.is rest

        by : IsStill moves (run.at k) ⊎ ((t : ℕ) × CanMove moves (run.at k) t) → ((i : ℕ) → rank i < bound → Ends moves run) → Ends moves run
        by (inl end) rest = record { moment = k; is = end }
        by (inr c) rest =
            let g = fair k (named k) (can (run.at k) c.0 c.1) in
            later g (cases_lt (rank g.later) (rank k)) rest

pub fair-runs-end : (moves : List Move) (states : ℕ) (ranks movers : List ℕ) → AreRanks moves states ranks movers → EveryFairRunEnds moves
fair-runs-end moves states ranks movers ok run fair = ends moves states ranks movers ok run fair (suc (slice_index ranks (run.at 0))) 0 (omega arith)
