use Rattle.std.proofs.Common.{◌≡◌, ◌≤◌, ℕ}
use Rattle.report_reasons.proofs.LineTexts.{IsBehind}
use Rattle.report_reasons.proofs.lines.line_of.Given as goal

-- Before each round the rest begins with the line of this number.
abbrev pub invariant-loop : goal.invariant-loop
invariant-loop l = 1 ≤ l.fn.number → IsBehind l.fn.text l.rest l.counter
