use Rattle.std.proofs.Common.{◌∙◌, arith}
use Rattle.show_places.proofs.Behind.{found, passed_on, none_left, shorter}
use Rattle.show_places.proofs.sections.find.Goals as goal

pub returns-then-section-id : goal.returns-then-section-id
returns-then-section-id c =
    found _ _ _ _ _ _ _ c.loop-section.invariant.bounds c.loop-section.invariant.passed c.in-Ok.ensures.gives (omega (arith, c.if-section-id.true))

pub loop-section-smaller : goal.loop-section-smaller
loop-section-smaller c = shorter _ _ _ _ c.in-Ok.ensures.gives

pub loop-section-preserved : goal.loop-section-preserved
loop-section-preserved c = record {
  bounds = c.in-Ok.ensures.keeps ∙ c.loop-section.invariant.bounds;
  passed = passed_on _ _ _ _ _ _ _ c.loop-section.invariant.bounds c.loop-section.invariant.passed c.in-Ok.ensures.gives c.if-section-id.false;
}

pub returns : goal.returns
returns c = none_left _ _ _ _ _ _ c.loop-section.invariant.bounds c.loop-section.invariant.passed c.in_default.ensures.gives
