use Rattle.std.proofs.Common.{◌+◌, ◌%◌, ◌^◌, ℕ, arith, refl, ap, sym, ◌∙◌}
use Rattle.search_table.specs.Tables.{row_digest}
use Rattle.search_table.proofs.Numbers.{number-first, number-more, none-taken, at-number, row-there, row-not-there, others-more}
use Rattle.search_table.specs.Tables.{states_of}
use Rattle.search_table.proofs.states.States.place_of.Goals as goal

pub loop-passed-init : goal.loop-passed-init
loop-passed-init c = record {
  number = c.digest_of-number.ensures ∙ sym (number-first (row_digest c.args.row.now));
  others = λ n low. absurd (omega (arith, low));
}

pub returns-in_default : goal.returns-in_default
returns-in_default c =
    let so = c.loop-passed.invariant in
    record {
      steps = c.loop-passed.passed;
      is = so.number;
      passed = so.others;
      free = none-taken c.args.self.now.digests.keys c.loop-passed.number (sym c.in_default.ensures.found);
    }

pub returns-then-is_at : goal.returns-then-is_at
returns-then-is_at c =
    row-there (states_of c.args.self.now) c.in-Some.place c.args.row.now c.is_at.result c.is_at.ensures c.if-is_at.true

pub loop-passed-preserved : goal.loop-passed-preserved
loop-passed-preserved c =
    let s = c.args.self.now in
    let row = c.args.row.now in
    let passed = c.loop-passed.passed in
    let number = c.loop-passed.number in
    let so = c.loop-passed.invariant in
    record {
      number = c.number_behind-behind.ensures
          ∙ (ap (λ (n : ℕ). (n + 1) % 2 ^ 64) so.number ∙ sym (number-more (row_digest row) passed (passed + 1) refl));
      others = others-more s row passed number c.in-Some.place so.number (at-number s.digests.keys number c.in-Some.place c.in-Some.ensures.index)
          (row-not-there (states_of s) c.in-Some.place row c.is_at.result c.is_at.ensures c.if-is_at.false) so.others;
    }
