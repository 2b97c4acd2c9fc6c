use Rattle.std.proofs.Common.{ℕ, ◌≡◌, ◌∙◌, sym, Some, None, true≢false, arith}
use Rattle.search_settled.specs.Accesses.{IsTimed}
use Rattle.search_settled.specs.declared.access.NextAccess.{NextAccess}
use Rattle.search_race_free.specs.Touches.{access_at}
use Rattle.search_race_free.proofs.Touching.{below_one_more, access-here, at_all}
use Rattle.search_race_free.proofs.timeouts.any_timed.Goals as goal

pub loop-n-preserved : goal.loop-n-preserved
loop-n-preserved c = record {
  missed = below_one_more (λ (t : ℕ). (a : NextAccess) → access_at c.args.wanted.now t ≡ Some a → IsTimed a → ⊥) c.loop-n.n c.loop-n.invariant.missed
      (λ a at t. true≢false (sym (c.is_timed.ensures.1 (a, sym (access-here c.args.wanted.now c.loop-n.n None c.loop-n-test.true) ∙ at, t)) ∙
      c.if-is_timed.false));
}

pub returns-clause-none : goal.returns-clause-none
returns-clause-none c = λ e. at_all (λ t a. IsTimed a → ⊥) c.args.wanted.now c.loop-n.n (omega (arith, c.loop-n-test.false)) c.loop-n.invariant.missed

pub returns-then-is_timed-clause-some : goal.returns-then-is_timed-clause-some
returns-then-is_timed-clause-some c = λ _.
    let e = c.is_timed.ensures.0 c.if-is_timed.true in
    (c.loop-n.n, e.0, access-here c.args.wanted.now c.loop-n.n None c.loop-n-test.true ∙ e.1, e.2)
