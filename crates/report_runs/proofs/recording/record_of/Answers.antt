use Rattle.std.proofs.Common.{subst}
use Rattle.replay_rules.specs.Ranges.{AreTyped}
use Rattle.report_runs.proofs.recording.record_of.Goals as goal

pub unreachable-requires : goal.unreachable-requires
unreachable-requires c =
    let wrong = c.in-Err.ensures.err in
    wrong.1 (c.requires (subst AreTyped wrong.0 c.show_parts_fit.ensures))
