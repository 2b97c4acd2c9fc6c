use Rattle.std.proofs.Common.{◌≡◌, ◌<◌, ◌≤◌, List, Option, ℕ, length, get_or, ap, subst, string_bytes, arith}
use Rattle.std.specs.List.{range_with_len}
use Rattle.std.proofs.lemmas.List.FromFn.{get_or-range_with_len, length-range_with_len}
use Rattle.types.specs.declared.event.Entry.{Entry}
use Rattle.types.specs.declared.outcome.ThreadReport.{ThreadReport}
use Rattle.show_rows.proofs.Texts.{text_next}
use Rattle.show_waits.specs.Cycles.{AreWaits}
use Rattle.show_waits.specs.CycleTexts.{SaysCycle}
use Rattle.show_waits.proofs.Telling.{all_told}
use Rattle.show_waits.proofs.cycle_texts.write_cycles.Goals as goal

pub loop-n-preserved : goal.loop-n-preserved
loop-n-preserved g c =
    let count = length c.args.shown.record.now.ends in
    let n = c.loop-n.n in
    let low : n < count = subst (λ (l : List ThreadReport). n < length l) c.as_slice-ends.ensures c.loop-n-test.true in
    let within : n < length (range_with_len 0 count) = omega (arith, low, length-range_with_len 0 count) in
    let at = get_or-range_with_len 0 count n 0 low in
    let is : n ≡ get_or (range_with_len 0 count) n 0 = omega (arith, at) in
    let told = subst (λ (ws : List (Option ℕ)). SaysCycle ws n (string_bytes c.in_ok-text.text)) c.as_slice-in-loop-n.ensures.value
    c.in_ok-text.ensures in
    text_next (SaysCycle c.in_ok-waits.waits.items) (range_with_len 0 count) n 0 n _ _ _ _ within is c.loop-n.invariant told
    c.in_ok-write.ensures.bytes

pub returns : goal.returns
returns g c =
    let count = length c.args.shown.record.now.ends in
    let waits = c.in_ok-waits.waits.items in
    let past : length (range_with_len 0 count) ≤ c.loop-n.n =
    omega (arith, c.loop-n-test.false, ap length c.as_slice-ends.ensures, length-range_with_len 0 count) in
    let are = subst (λ (ends : List ThreadReport). AreWaits c.args.shown.record.now.log ends c.args.left_out.now waits) c.as_slice-ends.ensures
    (subst (λ (log : List Entry). AreWaits log c.as_slice-ends.result.now c.args.left_out.now waits) c.as_slice.ensures c.in_ok-waits.ensures) in
    let all = all_told (SaysCycle waits) (range_with_len 0 count) c.loop-n.n _ _ past c.loop-n.invariant in
    (all.0, (waits, are, all.1), all.2)
