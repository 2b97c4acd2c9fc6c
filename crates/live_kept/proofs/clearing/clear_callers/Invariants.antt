use Rattle.std.proofs.Common.{◌≡◌, drop}
use Rattle.std.specs.List.{fold}
use Rattle.live_kept.specs.Cleared.{cleared_at}
use Rattle.live_kept.proofs.clearing.clear_callers.Given as goal

abbrev pub invariant-loop-caller : goal.invariant-loop-caller
invariant-loop-caller l =
    fold (cleared_at l.tables) l.words (drop l.caller-index l.callers) ≡ fold (cleared_at l.tables) l.fn.words l.callers
