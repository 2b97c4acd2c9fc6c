use Rattle.std.proofs.Common.{IsTrue, sym, refl, rules}
use Rattle.std.proofs.lemmas.List.{take_all}
use Rattle.std.proofs.lemmas.List.Elements.{All-more, All-same}
use Rattle.replay_text.specs.Conditions.{IsReport}
use Rattle.replay_text.proofs.ranges.are_reports.Goals as goal

pub loop-report-preserved : goal.loop-report-preserved
loop-report-preserved c =
    let holds : IsTrue c.is_report.result = search rules in
    All-more IsReport c.args.ends.now c.loop-report.report-index _ c.loop-report-test.true c.loop-report.invariant (c.is_report.ensures.0 holds)

pub returns : goal.returns
returns c = (
  λ t. All-same IsReport c.args.ends.now _
      (sym (take_all c.loop-report.report-index c.args.ends.now c.loop-report-test.false)) c.loop-report.invariant,
  λ h. refl,
)
