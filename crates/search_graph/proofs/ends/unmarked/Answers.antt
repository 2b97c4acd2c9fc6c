use Rattle.std.proofs.Common.{ap, ◌∙◌, subst, sym}
use Rattle.std.specs.List.Sorted.{IsStrictlyIncreasing}
use Rattle.search_graph.proofs.Reaching.{past-unmarked, past-marked, rises}
use Rattle.search_graph.proofs.ends.unmarked.Goals as goal
use Rattle.search_graph.proofs.ends.unmarked.Goals.{then-not-marked+in_ok-push, else-not-marked}

pub loop-s-preserved : goal.loop-s-preserved
loop-s-preserved c =
    let found = c.loop-s.found.items in
    let new = c.if-not-marked.found.items in
    let old = c.loop-s.invariant in
    elim c.if-not-marked.branch [
      | then-not-marked+in_ok-push w ↦
          let is = ap (λ v. v.items) w.found-is ∙ w.in_ok-push.ensures.items in
          record {
            found = past-unmarked c.args.marks.now found new c.loop-s.s old.found w.if-not-marked.true is;
            order = rises found new c.loop-s.s (λ v h. (old.found.sound v h).0) is old.order;
          }
      | else-not-marked w ↦ record {
        found = past-marked c.args.marks.now found new c.loop-s.s old.found w.if-not-marked.false (ap (λ v. v.items) w.found-is);
        order = subst (λ v. IsStrictlyIncreasing v.items) (sym w.found-is) old.order;
      }
    ]
