use Rattle.std.proofs.Common.{sym}
use Rattle.std.proofs.lemmas.List.{take_all}
use Rattle.std.proofs.lemmas.List.Elements.{All-more, All-same}
use Rattle.replay_text.specs.Conditions.{IsValue}
use Rattle.report_runs.proofs.fitting.show_values_fit.Goals as goal

pub loop-value-preserved : goal.loop-value-preserved
loop-value-preserved c = All-more IsValue c.args.values.now c.loop-value.value-index _ c.loop-value-test.true c.loop-value.invariant c.show_value_fits.ensures

pub returns : goal.returns
returns c = All-same IsValue c.args.values.now _ (sym (take_all c.loop-value.value-index c.args.values.now c.loop-value-test.false)) c.loop-value.invariant
