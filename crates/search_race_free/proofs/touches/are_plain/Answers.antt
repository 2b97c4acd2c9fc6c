use Rattle.std.proofs.Common.{◌≡◌, ◌∙◌, Bool, true, false, refl, subst, sym, true≢false}
use Rattle.std.proofs.lemmas.List.{take_all}
use Rattle.search_settled.specs.Accesses.{IsPlain}
use Rattle.search_race_free.specs.declared.owning.Touch.{Touch}
use Rattle.search_race_free.specs.Touches.{ArePlainOf}
use Rattle.search_race_free.proofs.Touching.{one_more}
use Rattle.search_race_free.proofs.touches.are_plain.Goals as goal

either : (b : Bool) → (b ≡ false → ⊥) → b ≡ true
either true h = refl
either false h = absurd (h refl)

pub loop-touch-preserved : goal.loop-touch-preserved
loop-touch-preserved c = record {
  plain = one_more (λ (x : Touch). x.thread ≡ c.args.thread → IsPlain x.access) c.args.owned.now c.loop-touch.touch-index _
      c.loop-touch-test.true c.loop-touch.invariant.plain
      (λ e. either _ (λ p. true≢false (sym (c.is_atomic.ensures.1 (e, p)) ∙ c.if-is_atomic.false)));
}

pub returns : goal.returns
returns c _ = subst (λ l. ArePlainOf l c.args.thread) (take_all c.loop-touch.touch-index c.args.owned.now c.loop-touch-test.false) c.loop-touch.invariant.plain
