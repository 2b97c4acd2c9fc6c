use Rattle.std.proofs.Common.{◌≡◌, ◌<◌, ◌≤◌, List, ℕ, length, get_or, subst, rules, arith}
use Rattle.std.specs.List.{AllZip, range_with_len}
use Rattle.std.proofs.lemmas.List.{take_all}
use Rattle.std.proofs.lemmas.List.FromFn.{get_or-range_with_len, length-range_with_len}
use Rattle.show_waits.specs.Cycles.{IsWait}
use Rattle.show_waits.proofs.Waiting.{zip_pushed}
use Rattle.show_waits.proofs.cycles.waits_of.Goals as goal

pub loop-n-preserved : goal.loop-n-preserved
loop-n-preserved c =
    let count = length c.args.ends.now in
    let n = c.loop-n.n in
    let within : n < length (range_with_len 0 count) = omega (arith, c.loop-n-test.true, length-range_with_len 0 count) in
    let at = get_or-range_with_len 0 count n 0 (omega (arith, c.loop-n-test.true)) in
    let is : n ≡ get_or (range_with_len 0 count) n 0 = omega (arith, at) in
    zip_pushed (IsWait c.args.log.now c.args.ends.now c.args.out.now) (range_with_len 0 count) c.loop-n.waits.items n 0 n _ within is
    c.loop-n.invariant c.wait_of.ensures _ (search rules)

pub returns : goal.returns
returns c =
    let count = length c.args.ends.now in
    let past : length (range_with_len 0 count) ≤ c.loop-n.n =
    omega (arith, c.loop-n-test.false, length-range_with_len 0 count) in
    subst (λ (xs : List ℕ). AllZip (IsWait c.args.log.now c.args.ends.now c.args.out.now) xs c.loop-n.waits.items)
    (take_all c.loop-n.n (range_with_len 0 count) past) c.loop-n.invariant
