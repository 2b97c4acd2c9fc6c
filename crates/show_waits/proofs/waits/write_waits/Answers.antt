use Rattle.std.proofs.Common.{◌≡◌, ◌<◌, ◌≤◌, length, get_or, sym, subst, arith}
use Rattle.std.specs.List.{range_with_len}
use Rattle.std.proofs.lemmas.List.FromFn.{get_or-range_with_len, length-range_with_len}
use Rattle.show_rows.proofs.Texts.{text_next}
use Rattle.show_waits.specs.Waits.{SaysWait}
use Rattle.show_waits.proofs.Telling.{all_and_cycles}
use Rattle.show_waits.proofs.waits.write_waits.Goals as goal

pub loop-n-preserved : goal.loop-n-preserved
loop-n-preserved g c =
    let count = length c.args.shown.record.now.ends in
    let n = c.loop-n.n in
    let low : n < count = subst (λ k. n < k) c.len-n-end.ensures c.loop-n-test.true in
    let within : n < length (range_with_len 0 count) = subst (λ k. n < k) (sym (length-range_with_len 0 count)) low in
    let at = get_or-range_with_len 0 count n 0 low in
    let is : n ≡ get_or (range_with_len 0 count) n 0 = omega (arith, at) in
    text_next (SaysWait c.args.shown c.args.map.now c.args.story.now c.args.left_out.now) (range_with_len 0 count) n 0 n _ _ _ _ within
    is c.loop-n.invariant c.in_ok-text.ensures c.in_ok-write.ensures.bytes

pub returns : goal.returns
returns g c =
    let count = length c.args.shown.record.now.ends in
    let past : length (range_with_len 0 count) ≤ c.loop-n.n =
    omega (arith, c.loop-n-test.false, c.len-n-end.ensures, length-range_with_len 0 count) in
    all_and_cycles c.args.shown c.args.left_out.now (SaysWait c.args.shown c.args.map.now c.args.story.now c.args.left_out.now) (range_with_len 0 count) c.loop-n.n _ _ _ _
    past c.loop-n.invariant c.in_ok-write_cycles.ensures c.in_ok-flush.ensures.bytes
