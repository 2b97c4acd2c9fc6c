use Rattle.std.proofs.Common.{sym, arith, ◌+◌, ◌<◌, ◌≤◌, ◌≡◌, ◌⊎◌, ℕ, Bool, List, All, length, take, slice_index, true}
use Rattle.std.proofs.Common.{false, subst, inr, refl, get_or-set_same}
use Rattle.std.proofs.lemmas.List.Elements.{All-contains, All-more, All-weaker}
use lib.ListN.{set}
use Rattle.search_graph.specs.declared.graph.Move.{Move}
use Rattle.search_graph.specs.Graph.{IsMarked, CanMove, move_at}
use Rattle.search_graph.specs.Ranks.{Falls, mover_at}
use Rattle.search_graph.proofs.Marks.{can-move, mark-more, mark-keeps, past}
use Rattle.search_graph.proofs.ranks.ranks_fall.Goals as goal
use Rattle.search_graph.proofs.ranks.ranks_fall.Goals.{then-movers-rank+else-next-rank-2, else-movers-rank}

falls-less : (ranks movers : List ℕ) (m : Move) → slice_index ranks m.from < length movers → slice_index ranks m.next ≤ slice_index ranks m.from
    → (slice_index ranks m.next ≡ slice_index ranks m.from → ⊥) → Falls ranks movers m
falls-less ranks movers m l h n = record { named = l; down = h; falls = λ _. omega (arith, n) }

falls-other : (ranks movers : List ℕ) (m : Move) → slice_index ranks m.from < length movers → slice_index ranks m.next ≤ slice_index ranks m.from
    → (mover_at ranks movers m.from ≡ m.thread → ⊥) → Falls ranks movers m
falls-other ranks movers m l h n = record { named = l; down = h; falls = λ e. absurd (n (sym e)) }

pub loop-m-preserved : goal.loop-m-preserved
loop-m-preserved c =
    let moves = c.args.moves.now in
    let ranks = c.args.ranks.now in
    let movers = c.args.movers.now in
    let i = c.loop-m.m-index in
    let m = move_at moves i in
    let marks = c.loop-m.marks in
    let old = c.loop-m.invariant in
    let P = λ (l : List Bool) (v : Move). v.thread ≡ mover_at ranks movers v.from → IsMarked l v.from in
    let within : i < length moves = omega arith in
    let named : slice_index ranks m.from < length movers = c.if-rank-movers.false in
    let down : slice_index ranks m.next ≤ slice_index ranks m.from = c.if-next-rank.false in
    let state : m.from < length marks = omega (arith, (c.requires.within i (record { from = 0; thread = 0; next = 0 }) within).from) in
    elim c.if-movers-rank.branch [
      | then-movers-rank+else-next-rank-2 w ↦ record {
        falls = All-more (Falls ranks movers) moves i _ within old.falls (falls-less ranks movers m named down w.if-next-rank-2.false);
        sound = mark-more (λ s. IsMarked c.args.marks.now s ⊎ CanMove moves s (mover_at ranks movers s)) marks c.if-movers-rank.marks m.from
            w.marks-is old.sound
            (inr (can-move moves i (mover_at ranks movers m.from) within (sym w.if-movers-rank.true)));
        all = subst (λ l. All (P l) (take (i + 1) moves)) (sym w.marks-is)
            (All-more (P (set marks m.from true)) moves i (record { from = 0; thread = 0; next = 0 }) within
            (All-weaker (P marks) (P (set marks m.from true)) (λ v h e. mark-keeps marks m.from v.from state (h e)) (take i moves) old.all)
            (λ _. get_or-set_same marks m.from true false state));
      }
      | else-movers-rank w ↦ record {
        falls = All-more (Falls ranks movers) moves i _ within old.falls (falls-other ranks movers m named down w.if-movers-rank.false);
        sound = λ s h. old.sound s (subst (λ l. IsMarked l s) w.marks-is h);
        all = subst (λ l. All (P l) (take (i + 1) moves)) (sym w.marks-is)
            (All-more (P marks) moves i (record { from = 0; thread = 0; next = 0 }) within old.all (λ e. absurd (w.if-movers-rank.false (sym e))));
      }
    ]

pub returns-clause-falls : goal.returns-clause-falls
returns-clause-falls c =
    (λ _. past (Falls c.args.ranks.now c.args.movers.now) c.loop-m.m-index c.args.moves.now (omega arith) c.loop-m.invariant.falls, λ _. refl)

pub returns-clause-all : goal.returns-clause-all
returns-clause-all c _ s can =
    let P = λ (v : Move). v.thread ≡ mover_at c.args.ranks.now c.args.movers.now v.from → IsMarked c.loop-m.marks v.from in
    All-contains P c.args.moves.now _ (past P c.loop-m.m-index c.args.moves.now (omega arith) c.loop-m.invariant.all) can.is refl
