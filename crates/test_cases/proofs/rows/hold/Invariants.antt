use Rattle.std.proofs.Common.{◌≡◌, true, All, take}
use Rattle.test_cases.proofs.rows.hold.Given as goal

-- each row behind us holds
abbrev pub invariant-loop-text : goal.invariant-loop-text
invariant-loop-text l = All (λ row. row.1 ≡ true) (take l.text-index l.rows)
