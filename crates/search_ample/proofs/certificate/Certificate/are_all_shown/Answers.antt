use Rattle.std.proofs.Common.{ℕ, below_more}
use Rattle.search_ample.specs.Certificate.{AreShownAt}
use Rattle.search_ample.proofs.certificate.Certificate.are_all_shown.Goals as goal

pub loop-state-preserved : goal.loop-state-preserved
loop-state-preserved c =
    below_more (λ (i : ℕ). AreShownAt c.args.self.now c.args.moves.now i) c.loop-state.state c.loop-state.invariant
    (c.are_shown_at.ensures.0 c.if-not-are_shown_at.false)
