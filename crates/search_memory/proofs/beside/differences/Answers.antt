use Rattle.std.proofs.Common.{◌≡◌, ◌+◌, ◌++◌, ◌∷◌, [], fold, List, ◌∙◌, ap, sym, subst, get_or, arith}
use Rattle.search_memory.specs.declared.beside.ChangedByte.{ChangedByte}
use Rattle.search_memory.specs.Memories.{with_change, AreDifferences}
use Rattle.search_memory.proofs.Differing.{changed_one, left_one, fold_more}
use Rattle.search_memory.proofs.Forms.{pushed, wider}
use Rattle.search_memory.proofs.beside.differences.Goals.{then-bytes-at+in_ok-push, else-bytes-at}
use Rattle.search_memory.proofs.beside.differences.Goals as goal

pub loop-at-preserved : goal.loop-at-preserved
loop-at-preserved c =
    let first = c.args.first.now in
    let bytes = c.args.bytes.now in
    let at = c.loop-at.at in
    let low = c.loop-at-test.true in
    let was = c.loop-at.invariant.same in
    let before = c.loop-at.changes.items in
    let kept = c.loop-at.invariant.differences in
    elim c.if-bytes-at.branch [
      | then-bytes-at+in_ok-push w ↦
          let one : ChangedByte = record { at = at; byte = get_or bytes at 0 } in
          let items : c.if-bytes-at.changes.items ≡ before ++ one ∷ [] = ap (λ v. v.items) w.changes-is ∙ w.in_ok-push.ensures.items in
          record {
            same = ap (λ (xs : List ChangedByte). fold with_change first xs) items
                ∙ (fold_more with_change first before one ∙ (ap (λ bs. with_change bs one) was ∙ changed_one bytes first at 0 low c.requires));
            differences = subst (AreDifferences first 0 (at + 1)) (sym items) (pushed first at (get_or bytes at 0) before kept w.if-bytes-at.true);
          }
      | else-bytes-at w ↦
          let items : c.if-bytes-at.changes.items ≡ before = ap (λ v. v.items) w.changes-is in
          record {
            same = ap (λ (xs : List ChangedByte). fold with_change first xs) items ∙ (was ∙ left_one bytes first at 0 low c.requires w.if-bytes-at.false);
            differences = subst (AreDifferences first 0 (at + 1)) (sym items) (wider first 0 at (at + 1) before (omega arith) kept);
          }
    ]
