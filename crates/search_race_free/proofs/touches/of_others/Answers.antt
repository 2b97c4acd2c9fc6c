use Rattle.std.proofs.Common.{◌≡◌, ◌≢◌, ◌⊎◌, ◌↔◌, ◌∙◌, subst, sym, ap, get_or, Contains, true≢false}
use Rattle.std.proofs.lemmas.List.{take_all}
use Rattle.search_race_free.specs.declared.owning.Touch.{Touch}
use Rattle.search_race_free.specs.Touches.{AreOfOthers}
use Rattle.search_race_free.proofs.Touching.{others-more, pushed-new, gone-new, no_other}
use Rattle.search_race_free.proofs.touches.of_others.Goals as goal
use Rattle.search_race_free.proofs.touches.of_others.Goals.{then-is_of_other+in_ok-push, else-is_of_other}

pub loop-touch-preserved : goal.loop-touch-preserved
loop-touch-preserved c =
    let next = get_or c.args.owned.now c.loop-touch.touch-index _ in
    let new : (x : Touch) → Contains c.if-is_of_other.others.items x ↔ (Contains c.loop-touch.others.items x ⊎ (next ≡ x) × (x.thread ≢ c.args.thread)) =
    elim c.if-is_of_other.branch [
      | then-is_of_other+in_ok-push w ↦
          pushed-new c.args.thread c.loop-touch.others.items c.if-is_of_other.others.items next (ap (λ v. v.items) w.others-is ∙ w.in_ok-push.ensures.items)
          (c.is_of_other.ensures.0 w.if-is_of_other.true)
      | else-is_of_other w ↦
          subst (λ v. (x : Touch) → Contains v.items x ↔ (Contains c.loop-touch.others.items x ⊎ (next ≡ x) × (x.thread ≢ c.args.thread))) (sym w.others-is)
          (gone-new c.args.thread c.loop-touch.others.items next
          (no_other next.thread c.args.thread (λ p. true≢false (sym (c.is_of_other.ensures.1 p) ∙ w.if-is_of_other.false))))
    ] in
    record {
      others = others-more c.args.thread c.args.owned.now c.loop-touch.others.items c.if-is_of_other.others.items c.loop-touch.touch-index _
          c.loop-touch-test.true c.loop-touch.invariant.others new;
    }

pub returns : goal.returns
returns c = subst (λ l. AreOfOthers l c.args.thread c.loop-touch.others.items) (take_all c.loop-touch.touch-index c.args.owned.now c.loop-touch-test.false)
    c.loop-touch.invariant.others
