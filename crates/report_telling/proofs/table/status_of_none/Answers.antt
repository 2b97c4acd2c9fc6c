use Rattle.std.proofs.Common.{refl, sym, ◌∙◌, arith, true≢false}
use Rattle.report_telling.proofs.table.status_of_none.Goals as goal

pub returns-then-branch : goal.returns-then-branch
returns-then-branch c = record {
  well = ((λ _. c.in_ok-is_all_well.ensures.0 c.if-branch.true), (λ _. refl));
  statuses = omega arith;
}

pub returns : goal.returns
returns c = record {
  well = (
    (λ one. absurd (omega (arith, one))),
    (λ well. absurd (true≢false (sym (c.in_ok-is_all_well.ensures.1 well) ∙ c.if-branch.false))),
  );
  statuses = omega arith;
}
