use Rattle.std.proofs.Common.{ℕ, below_more}
use Rattle.search_ample.specs.Certificate.{IsShownAt}
use Rattle.search_ample.proofs.certificate.Certificate.are_shown_at.Goals as goal

pub loop-thread-preserved : goal.loop-thread-preserved
loop-thread-preserved c =
    below_more (λ (n : ℕ). IsShownAt c.args.self.now c.args.moves.now c.args.state n) c.loop-thread.thread c.loop-thread.invariant
    (c.is_shown_at.ensures.0 c.if-not-is_shown_at.false)
