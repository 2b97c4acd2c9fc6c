use Rattle.std.proofs.Common.{ℕ, ◌≡◌, ◌≢◌, ◌∙◌, sym, Some, None, true≢false, arith}
use Rattle.search_settled.specs.Accesses.{Race}
use Rattle.search_settled.specs.declared.access.NextAccess.{NextAccess}
use Rattle.search_race_free.specs.Touches.{access_at}
use Rattle.search_race_free.proofs.Touching.{below_one_more, access-here, at_all}
use Rattle.search_race_free.proofs.touches.meeting.Goals as goal

pub returns-then-meets-clause-some : goal.returns-then-meets-clause-some
returns-then-meets-clause-some c =
    let h = c.meets.ensures.0 c.if-meets.true in
    record { access = h.0; wants = access-here c.args.wanted.now c.loop-other.other None c.loop-other-test.true ∙ h.1; differ = h.2; race = h.3 }

pub loop-other-preserved : goal.loop-other-preserved
loop-other-preserved c = record {
  missed = below_one_more (λ (u : ℕ). (b : NextAccess) → access_at c.args.wanted.now u ≡ Some b → u ≢ c.args.thread → Race c.args.access b → ⊥)
      c.loop-other.other
      c.loop-other.invariant.missed
      (λ b at d r. true≢false (sym (c.meets.ensures.1 (b, sym (access-here c.args.wanted.now c.loop-other.other None c.loop-other-test.true) ∙ at, d, r)) ∙
      c.if-meets.false));
}

pub returns-clause-none : goal.returns-clause-none
returns-clause-none c =
    at_all (λ u b. u ≢ c.args.thread → Race c.args.access b → ⊥) c.args.wanted.now c.loop-other.other (omega (arith, c.loop-other-test.false))
    c.loop-other.invariant.missed
