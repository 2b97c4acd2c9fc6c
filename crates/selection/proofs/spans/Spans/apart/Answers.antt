use Rattle.std.proofs.Common.{◌≡◌, ◌+◌, ◌<◌, ℕ, List, [], get_or, max, refl, sym, ap, subst, ◌∙◌, arith}
use Rattle.selection.specs.declared.choice.NumberSpan.{NumberSpan}
use Rattle.selection.proofs.Cutting.{AreCut, nothing_cut, next_cut, next_had}
use Rattle.selection.proofs.spans.Spans.apart.Goals as goal
use Rattle.selection.proofs.spans.Spans.apart.Goals.{then-first-end+in_ok-push, else-first-end}

pub loop-span-init : goal.loop-span-init
loop-span-init c = subst (λ (made : List NumberSpan). AreCut made [] 0) (sym c.new-spans.ensures.items) nothing_cut

pub loop-span-preserved : goal.loop-span-preserved
loop-span-preserved c =
    let all : List NumberSpan = c.args.sorted.now in
    let none : NumberSpan = record { first = 0; last = 0 } in
    let k : ℕ = c.loop-span.span-index in
    let had : ℕ = c.loop-span.next in
    let most : c.max-first.result ≡ max had (get_or all k none).first = c.max-first.ensures ∙ ap (λ (n : ℕ). max had n) c.from.ensures in
    elim c.if-first-end.branch [
      | then-first-end+in_ok-push w ↦
          let new : NumberSpan = record { first = c.max-first.result; last = (get_or all k none).last } in
          let below : c.max-first.result < (get_or all k none).last + 1 = rw c.from-end.ensures at w.if-first-end.true in
          rw (ap (λ v. v.items) w.spans-is ∙ w.in_ok-push.ensures.items, w.next-is, c.from-end.ensures)
          (next_cut all c.loop-span.spans.items k had none c.requires c.loop-span-test.true c.loop-span.invariant new most refl below)
      | else-first-end w ↦
          let ends : (get_or all k none).last < max had (get_or all k none).first = omega (arith, most, c.from-end.ensures, w.if-first-end.false) in
          rw (ap (λ v. v.items) w.spans-is, w.next-is)
          (next_had all c.loop-span.spans.items k had none c.requires c.loop-span-test.true c.loop-span.invariant ends)
    ]
