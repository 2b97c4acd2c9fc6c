use Rattle.std.proofs.Common.{◌≡◌, ◌-◌, arith}
use Rattle.search_strategies.proofs.Drawing.{shuffled_more, shuffled_last}
use Rattle.search_strategies.proofs.pct.shuffle.Goals as goal

pub loop-place-preserved : goal.loop-place-preserved
loop-place-preserved c =
    rw (c.swap.ensures.after, c.below-other.ensures.number, c.below-other.ensures.next)
    (shuffled_more c.loop-place.ranks c.loop-place.draws _ c.loop-place.place c.loop-place-test.true c.loop-place.invariant)

pub returns : goal.returns
returns c =
    let none : 64 - c.loop-place.place ≡ 0 = omega arith in
    shuffled_last _ _ c.loop-place.place none c.loop-place.invariant
