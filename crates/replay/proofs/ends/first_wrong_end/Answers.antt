use Rattle.std.proofs.Common.{◌≡◌, length, ap, subst, inl, inr, arith, below_more}
use Rattle.std.proofs.lemmas.Bool.{cases_lt}
use Rattle.replay_rules.specs.Recorded.{LineAgrees}
use Rattle.replay.proofs.Lines.{line_agrees, line_has, pages_agree, pages_held, all_reported}
use Rattle.replay.proofs.ends.first_wrong_end.Goals as goal

pub returns-then-not-has_left : goal.returns-then-not-has_left
returns-then-not-has_left g c = λ s e holds.
    let same : length c.as_slice-ends.result.now ≡ length c.args.parts.now.ends = ap length c.as_slice-ends.ensures in
    record {
      below = omega (arith, same, c.loop-number-test.true);
      before = c.loop-number.invariant s e;
      wrong = λ line. c.has_left.ensures.other c.if-not-has_left.true s c.args.parts.now e
          (line_has c.args.parts.now s c.as_slice-ends.result.now c.as_slice-ends.ensures c.loop-number.number _ c.loop-number-test.true line);
    }

pub loop-number-preserved : goal.loop-number-preserved
loop-number-preserved g c = λ s e.
    below_more (λ m. LineAgrees c.args.parts.now s.state s.places m) c.loop-number.number (c.loop-number.invariant s e)
    (line_agrees c.args.parts.now s c.as_slice-ends.result.now c.as_slice-ends.ensures c.loop-number.number _ c.loop-number-test.true
    (c.has_left.ensures.left c.if-not-has_left.false s c.args.parts.now e))

pub returns-then-is_pages_line : goal.returns-then-is_pages_line
returns-then-is_pages_line g c = λ s e holds m within.
    let same : length c.as_slice-ends.result.now ≡ length c.args.parts.now.ends = ap length c.as_slice-ends.ensures in
    elim (cases_lt m (length c.args.parts.now.ends)) [
      | inl lt ↦ c.loop-number.invariant s e m (omega (arith, lt, same, c.loop-number-test.false))
      | inr ge ↦ (
          let last : length c.args.parts.now.ends ≡ m = omega (arith, ge, within) in
          let is = c.is_pages_line.ensures.same c.if-is_pages_line.true in
          subst (λ k. LineAgrees c.args.parts.now s.state s.places k) last
          (pages_agree g.T.TakesTurns.meaning s c.args.threads.now c.args.stage.now.queue c.args.stage.now.started
          c.args.stage.now.ends c.args.parts.now e c.args.held holds is.0 is.1)
          )
    ]

pub returns-else-is_pages_line : goal.returns-else-is_pages_line
returns-else-is_pages_line g c = λ s e holds.
    let same : length c.as_slice-ends.result.now ≡ length c.args.parts.now.ends = ap length c.as_slice-ends.ensures in
    record {
      below = omega (arith, same);
      before = λ m lt. c.loop-number.invariant s e m (omega (arith, lt, c.loop-number-test.false));
      wrong = λ line.
          let last : LineAgrees c.args.parts.now s.state s.places (length c.args.parts.now.ends) =
          subst (λ k. LineAgrees c.args.parts.now s.state s.places k) same line in
          c.is_pages_line.ensures.other c.if-is_pages_line.false (
            pages_held g.T.TakesTurns.meaning s c.args.threads.now c.args.stage.now.queue c.args.stage.now.started
                c.args.stage.now.ends c.args.parts.now e c.args.held holds last,
            all_reported g.T.TakesTurns.meaning s c.args.threads.now c.args.stage.now.queue c.args.stage.now.started
                c.args.stage.now.ends c.args.parts.now e c.args.held holds last,
          );
    }
