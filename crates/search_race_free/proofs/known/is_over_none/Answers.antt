use Rattle.std.proofs.Common.{ℕ, ◌≡◌, ◌≢◌, ◌∙◌, sym, Some, None, arith}
use Rattle.search_settled.specs.Accesses.{WritesOver}
use Rattle.search_settled.specs.declared.access.NextAccess.{NextAccess}
use Rattle.search_race_free.specs.Touches.{access_at}
use Rattle.search_race_free.proofs.Touching.{below_one_more, access-here, at_all}
use Rattle.search_race_free.proofs.known.is_over_none.Goals as goal

pub loop-other-preserved : goal.loop-other-preserved
loop-other-preserved c =
    let here = access-here c.args.wanted.now c.loop-other.other None c.loop-other-test.true in
    record {
      missed = λ x low over. below_one_more
          (λ (u : ℕ). (b : NextAccess) → access_at c.args.wanted.now u ≡ Some b → u ≢ c.args.n → WritesOver c.args.access b → ⊥) c.loop-other.other
          (λ u less b at d w. c.loop-other.invariant.missed (record { thread = u; access = b }) less (record { wants = at; other = d; over = w }))
          (λ b at d w. c.in_default.ensures.none b (sym here ∙ at) d w) x.thread low x.access over.wants over.other over.over;
    }

pub returns : goal.returns
returns c _ x over =
    at_all (λ u b. u ≢ c.args.n → WritesOver c.args.access b → ⊥) c.args.wanted.now c.loop-other.other (omega (arith, c.loop-other-test.false))
    (λ u less b at d w. c.loop-other.invariant.missed (record { thread = u; access = b }) less (record { wants = at; other = d; over = w }))
    x.thread x.access over.wants over.other over.over
