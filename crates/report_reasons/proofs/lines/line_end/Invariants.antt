use Rattle.std.proofs.Common.{◌≡◌, ◌≤◌, ◌-◌, ℕ, false, length, take}
use Rattle.std.specs.List.{list_any}
use Rattle.replay_text.specs.Breaks.{is_feed}
use Rattle.report_reasons.proofs.lines.line_end.Given as goal

abbrev pub invariant-loop-end : goal.invariant-loop-end
invariant-loop-end l = (l.end ≤ length l.fn.text) × (list_any is_feed (take l.end l.fn.text) ≡ false)

abbrev pub decreases-loop-end : goal.decreases-loop-end
decreases-loop-end l = length l.text - l.end
