use Rattle.std.proofs.Common.{arith, sym, subst, ◌<◌, ◌≡◌, ◌-◌, suc, length, drop, true≢false, refl}
use Rattle.search_graph.specs.Marking.{IsClosed}
use Rattle.search_graph.proofs.Reaching.{back-can-end, closed-more}
use Rattle.search_graph.proofs.ends.mark_all_back.Goals as goal

pub loop-k-preserved-then-mark_back : goal.loop-k-preserved-then-mark_back
loop-k-preserved-then-mark_back c =
    let within : c.loop-k.k - 1 < length c.args.moves.now = omega arith in
    let e = c.if-mark_back.ensures in
    let old = c.loop-k.invariant in
    record {
      within = omega arith;
      ends = back-can-end c.args.moves.now c.args.ended.now c.loop-k.marks c.mark_back.new.marks (c.loop-k.k - 1) within e.kept e.marked old.ends;
      most = omega (arith, e.fewer refl, old.most);
      fewer = λ _. omega (arith, e.fewer refl, old.most);
      closed = λ h. absurd (true≢false h);
    }

pub loop-k-preserved : goal.loop-k-preserved
loop-k-preserved c =
    let within : c.loop-k.k - 1 < length c.args.moves.now = omega arith in
    let e = c.if-mark_back.ensures in
    let old = c.loop-k.invariant in
    let next : c.loop-k.k ≡ suc (c.loop-k.k - 1) = omega arith in
    record {
      within = omega arith;
      ends = back-can-end c.args.moves.now c.args.ended.now c.loop-k.marks c.mark_back.new.marks (c.loop-k.k - 1) within e.kept e.marked old.ends;
      most = omega (arith, e.most, old.most);
      fewer = λ h. omega (arith, e.most, old.fewer h);
      closed = λ h. closed-more c.args.moves.now c.mark_back.new.marks (c.loop-k.k - 1) c.loop-k.k next within e.closed
          (subst (λ l. IsClosed (drop c.loop-k.k c.args.moves.now) l) (sym (e.same refl)) (old.closed h));
    }
