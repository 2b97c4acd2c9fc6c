use Rattle.std.proofs.Common.{arith, ◌+◌, ◌<◌, ◌≡◌, ◌⊎◌, length, take, true, false, inr, subst, sym, refl, get_or-set_same, All}
use Rattle.std.proofs.lemmas.List.Elements.{All-contains, All-more, All-weaker}
use lib.ListN.{set}
use Rattle.search_graph.specs.Graph.{IsMarked, CanMove, move_at}
use Rattle.search_graph.proofs.Marks.{can-move, mark-more, mark-keeps, past}
use Rattle.search_graph.proofs.cycles.mark_thread.Goals as goal
use Rattle.search_graph.proofs.cycles.mark_thread.Goals.{then-m-thread, else-m-thread}

pub loop-m-preserved : goal.loop-m-preserved
loop-m-preserved c =
    let moves = c.args.moves.now in
    let marks = c.loop-m.marks in
    let t = c.args.thread in
    let m = move_at moves c.loop-m.m-index in
    let old = c.loop-m.invariant in
    let within : c.loop-m.m-index < length moves = omega arith in
    let state : m.from < length marks = omega (arith, (c.requires c.loop-m.m-index (record { from = 0; thread = 0; next = 0 }) within).from) in
    elim c.if-m-thread.branch [
      | then-m-thread w ↦ record {
        sound = mark-more (λ s. IsMarked c.args.marks.now s ⊎ CanMove moves s t) marks c.if-m-thread.marks m.from w.marks-is old.sound
            (inr (can-move moves c.loop-m.m-index t within w.if-m-thread.true));
        all = subst (λ l. All (λ v. v.thread ≡ t → IsMarked l v.from) (take (c.loop-m.m-index + 1) moves)) (sym w.marks-is)
            (All-more (λ v. v.thread ≡ t → IsMarked (set marks m.from true) v.from) moves c.loop-m.m-index (record { from = 0; thread = 0; next = 0 }) within
            (All-weaker (λ v. v.thread ≡ t → IsMarked marks v.from) (λ v. v.thread ≡ t → IsMarked (set marks m.from true) v.from)
            (λ v h e. mark-keeps marks m.from v.from state (h e)) (take c.loop-m.m-index moves) old.all)
            (λ _. get_or-set_same marks m.from true false state));
      }
      | else-m-thread w ↦ record {
        sound = λ s h. old.sound s (subst (λ l. IsMarked l s) w.marks-is h);
        all = subst (λ l. All (λ v. v.thread ≡ t → IsMarked l v.from) (take (c.loop-m.m-index + 1) moves)) (sym w.marks-is)
            (All-more (λ v. v.thread ≡ t → IsMarked marks v.from) moves c.loop-m.m-index (record { from = 0; thread = 0; next = 0 }) within old.all
            (λ e. absurd (w.if-m-thread.false e)));
      }
    ]

pub returns-clause-all : goal.returns-clause-all
returns-clause-all c s can =
    All-contains (λ v. v.thread ≡ c.args.thread → IsMarked c.loop-m.marks v.from) c.args.moves.now _
    (past (λ v. v.thread ≡ c.args.thread → IsMarked c.loop-m.marks v.from) c.loop-m.m-index c.args.moves.now (omega arith) c.loop-m.invariant.all) can.is refl
