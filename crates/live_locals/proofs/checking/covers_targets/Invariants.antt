use Rattle.std.proofs.Common.{take}
use Rattle.std.specs.List.{All}
use Rattle.validate_typing.specs.declared.target.Target.{Target}
use Rattle.live_locals.specs.Live.{Covers, row_at}
use Rattle.live_locals.proofs.checking.covers_targets.Given as goal

abbrev pub invariant-loop-target : goal.invariant-loop-target
invariant-loop-target l = All (λ (t : Target). Covers l.row (row_at l.rows t.to) l.written) (take l.target-index l.targets)
