use Rattle.std.proofs.Common.{◌≡◌, ◌<◌, ◌+◌, ℕ, List, length, subst, sym, arith, rules, take}
use Rattle.report_reasons.specs.Lines.{IsLine}
use Rattle.report_reasons.proofs.LineTexts.{IsBehind, behind, first, last}
use Rattle.report_reasons.proofs.lines.line_of.Goals as goal

pub returns-then-end-rest : goal.returns-then-end-rest
returns-then-end-rest c = λ some.
    omega (arith, last _ _ _ _ (c.loop.invariant some) c.line_end-end.ensures (search rules), c.loop-test.true)

pub loop-preserved : goal.loop-preserved
loop-preserved c = λ some.
    let lt : c.line_end-end.result < length c.loop.rest.now = omega (arith, c.line_end-end.ensures.0, c.if-end-rest.false) in
    subst (λ (rest : List ℕ). IsBehind c.args.text.now rest (c.loop.counter + 1)) (sym c.split_at.ensures.back)
    (behind _ _ _ _ (c.loop.invariant some) c.line_end-end.ensures lt)

pub returns : goal.returns
returns c = λ some.
    let n : c.loop.counter ≡ c.args.number = omega (arith, c.loop-test.false, c.loop.auto, some) in
    subst (λ (m : ℕ). IsLine c.args.text.now m (take c.line_end.result c.loop.rest.now)) n
    (first _ _ _ _ (c.loop.invariant some) c.line_end.ensures)
