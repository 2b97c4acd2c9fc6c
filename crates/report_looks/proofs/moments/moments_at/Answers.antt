use Rattle.std.proofs.Common.{◌≡◌, ◌+◌, ◌-◌, ℕ, List, length, drop, subst, sym, arith}
use Rattle.std.proofs.lemmas.List.Sums.{sum_by-cons}
use Rattle.std.specs.List.{AllZip}
use Rattle.std.specs.Prelude.{string_bytes}
use Rattle.show_events.specs.declared.run.MomentText.{MomentText}
use Rattle.report_looks.specs.PageMoments.{IsMomentAt, size_of}
use Rattle.report_looks.specs.declared.moments.TheConstants.{MOST_MOMENT_BYTES}
use Rattle.report_looks.proofs.LastMoments.{zip_before}
use Rattle.report_looks.proofs.moments.moments_at.Goals as goal

abbrev size : MomentText → ℕ
size moment = length (string_bytes moment.text)

pub returns-in-None : goal.returns-in-None
returns-in-None c =
    let moments = c.loop-k.moments.items in
    let one = c.in_ok-moment.moment in
    record {
      left_out = c.loop-k.k;
      each = c.loop-k.invariant.each;
      within = omega (arith, c.loop-k.invariant.room);
      full = λ _. (
        one,
        c.in_ok-moment.ensures,
        omega (arith, c.loop-k.invariant.room, c.in-None.ensures, c.len.ensures, sum_by-cons size one moments),
      );
    }

pub loop-k-preserved : goal.loop-k-preserved
loop-k-preserved c =
    let is = IsMomentAt c.args.seen c.args.races.now in
    let moments = c.loop-k.moments.items in
    let one = c.in_ok-moment.moment in
    let above = c.loop-k.k in
    let number : above ≡ above - 1 + 1 = omega (arith, c.loop-k-test.true) in
    record {
      each = subst (λ (ms : List MomentText). AllZip is (drop (above - 1) c.args.places.now) ms) (sym c.in_ok-put_first.ensures)
          (zip_before is c.args.places.now moments (above - 1) above 0 one number (omega (arith, c.loop-k-test.true, c.loop-k.auto.k))
          c.loop-k.invariant.each c.in_ok-moment.ensures);
      room = subst (λ (ms : List MomentText). size_of ms + c.in-Some.left ≡ MOST_MOMENT_BYTES) (sym c.in_ok-put_first.ensures)
          (omega (arith, c.loop-k.invariant.room, c.in-Some.ensures, c.len.ensures, sum_by-cons size one moments));
    }

pub returns : goal.returns
returns c = record {
  left_out = c.loop-k.k;
  each = c.loop-k.invariant.each;
  within = omega (arith, c.loop-k.invariant.room);
  full = λ lt. absurd (omega (arith, lt, c.loop-k-test.false));
}
