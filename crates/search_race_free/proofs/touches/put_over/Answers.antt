use Rattle.std.proofs.Common.{◌+◌, ◌∙◌, sym, subst, None, arith}
use Rattle.search_race_free.specs.Touches.{Strikes, StrikesNobody}
use Rattle.search_race_free.proofs.Touching.{access-here}
use Rattle.search_race_free.proofs.Overwriting.{OverSoFar, over-skip, over-more, over-strikes, over-all}
use Rattle.search_race_free.proofs.touches.put_over.Goals as goal
use Rattle.search_race_free.proofs.touches.put_over.Goals.{in-Some+in_default-struck+in_ok-put, in_default}

pub returns-in-Some-struck-clause-some : goal.returns-in-Some-struck-clause-some
returns-in-Some-struck-clause-some c =
    let h = c.in-Some.ensures.some in
    over-strikes c.args.wanted.now c.args.n c.args.access c.args.touches.now.items c.loop-other.other c.in-Some-struck.one c.loop-other.touches.items
    c.in-Some.next c.loop-other.invariant
    (access-here c.args.wanted.now c.loop-other.other None c.loop-other-test.true ∙ h.0) h.2
    (subst (λ l. Strikes l c.loop-other.other c.in-Some.next c.in-Some-struck.one) c.as_slice.ensures.value c.in-Some-struck.ensures.some)

pub loop-other-preserved : goal.loop-other-preserved
loop-other-preserved c =
    let here = access-here c.args.wanted.now c.loop-other.other None c.loop-other-test.true in
    let so = OverSoFar c.args.wanted.now c.args.n c.args.access c.args.touches.now.items (c.loop-other.other + 1) in
    elim c.match-over_at.branch [
      | in-Some+in_default-struck+in_ok-put w ↦
          (let h = w.in-Some.ensures.some in
          subst (λ v. so v.items) (sym w.touches-is)
          (over-more c.args.wanted.now c.args.n c.args.access c.args.touches.now.items c.loop-other.other c.loop-other.touches.items
          w.put.new.touches.items w.in-Some.next c.loop-other.invariant (here ∙ h.0) h.1 h.2
          (subst (λ l. StrikesNobody l c.loop-other.other w.in-Some.next) w.as_slice.ensures.value w.in_default-struck.ensures.none) w.in_ok-put.ensures))
      | in_default w ↦
          subst (λ v. so v.items) (sym w.touches-is)
          (over-skip c.args.wanted.now c.args.n c.args.access c.args.touches.now.items c.loop-other.other c.loop-other.touches.items
          c.loop-other.invariant (λ b at d o. w.in_default.ensures.none b (sym here ∙ at) d o))
    ]

pub returns-clause-none : goal.returns-clause-none
returns-clause-none c =
    over-all c.args.wanted.now c.args.n c.args.access c.args.touches.now.items c.loop-other.other c.loop-other.touches.items
    (omega (arith, c.loop-other-test.false)) c.loop-other.invariant
