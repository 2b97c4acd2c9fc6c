use Rattle.std.proofs.Common.{◌≢◌, ◌∙◌, subst, sym, Contains, true≢false}
use Rattle.std.proofs.lemmas.List.{take_all}
use Rattle.search_settled.specs.Accesses.{Race}
use Rattle.search_race_free.specs.declared.owning.Touch.{Touch}
use Rattle.search_race_free.proofs.Touching.{one_more}
use Rattle.search_race_free.proofs.touches.struck.Goals as goal

pub loop-touch-preserved : goal.loop-touch-preserved
loop-touch-preserved c = record {
  missed = one_more (λ (x : Touch). x.thread ≢ c.args.thread → Race c.args.access x.access → ⊥) c.args.owned.now c.loop-touch.touch-index _
      c.loop-touch-test.true c.loop-touch.invariant.missed (λ d h. true≢false (sym (c.strikes.ensures.1 (d, h)) ∙ c.if-strikes.false));
}

pub returns-clause-none : goal.returns-clause-none
returns-clause-none c x m =
    c.loop-touch.invariant.missed x (subst (λ l. Contains l x) (sym (take_all c.loop-touch.touch-index c.args.owned.now c.loop-touch-test.false)) m)
