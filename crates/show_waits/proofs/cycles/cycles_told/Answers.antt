use Rattle.std.proofs.Common.{◌≡◌, ◌<◌, ◌≤◌, List, Option, ℕ, length, get_or, sym, subst, arith}
use Rattle.std.specs.List.{range_with_len}
use Rattle.std.proofs.lemmas.List.FromFn.{get_or-range_with_len, length-range_with_len}
use Rattle.show_waits.specs.Cycles.{IsToldCycle}
use Rattle.show_waits.proofs.Cycling.{all_of, one_more}
use Rattle.show_waits.proofs.cycles.cycles_told.Goals as goal

pub loop-n-preserved : goal.loop-n-preserved
loop-n-preserved c =
    let count = length c.args.ends.now in
    let n = c.loop-n.n in
    let low : n < count = omega (arith, c.loop-n-test.true) in
    let within : n < length (range_with_len 0 count) = subst (λ k. n < k) (sym (length-range_with_len 0 count)) low in
    let at = get_or-range_with_len 0 count n 0 low in
    let is : n ≡ get_or (range_with_len 0 count) n 0 = omega (arith, at) in
    one_more _ (range_with_len 0 count) n 0 n _ _ _ within is c.loop-n.invariant
    (subst (λ (ws : List (Option ℕ)). IsToldCycle ws n c.in_ok-cycle.cycle) c.as_slice.ensures.value c.in_ok-cycle.ensures)
    c.in_ok-put_if_any.ensures

pub returns : goal.returns
returns c =
    let count = length c.args.ends.now in
    let past : length (range_with_len 0 count) ≤ c.loop-n.n =
    omega (arith, c.loop-n-test.false, length-range_with_len 0 count) in
    all_of c.args.log.now c.args.ends.now c.args.out.now _ c.loop-n.n _ c.in_ok-waits.ensures past c.loop-n.invariant
