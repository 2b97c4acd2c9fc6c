use Rattle.std.proofs.Common.{IsTrue, sym, refl, rules}
use Rattle.std.proofs.lemmas.List.{take_all}
use Rattle.std.proofs.lemmas.List.Elements.{All-more, All-same}
use Rattle.replay_text.specs.Conditions.{IsValue}
use Rattle.replay_text.proofs.ranges.are_values.Goals as goal

pub loop-value-preserved : goal.loop-value-preserved
loop-value-preserved c =
    let holds : IsTrue c.is_value.result = search rules in
    All-more IsValue c.args.values.now c.loop-value.value-index _ c.loop-value-test.true c.loop-value.invariant (c.is_value.ensures.0 holds)

pub returns : goal.returns
returns c = (
  λ t. All-same IsValue c.args.values.now _
      (sym (take_all c.loop-value.value-index c.args.values.now c.loop-value-test.false)) c.loop-value.invariant,
  λ h. refl,
)
