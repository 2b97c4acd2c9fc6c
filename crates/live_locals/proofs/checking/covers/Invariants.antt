use Rattle.std.proofs.Common.{◌<◌, ℕ, Some}
use Rattle.std.specs.Prelude.{◌≢◌}
use Rattle.live_locals.specs.Live.{IsLive}
use Rattle.live_locals.proofs.checking.covers.Given as goal

abbrev pub invariant-loop-local : goal.invariant-loop-local
invariant-loop-local l = (k : ℕ) → k < l.local → IsLive l.behind k → l.written ≢ Some k → IsLive l.row k
