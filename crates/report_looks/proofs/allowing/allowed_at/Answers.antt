use Rattle.std.proofs.Common.{List, refl, subst}
use Rattle.std.specs.List.{AllZip}
use Rattle.report_command.specs.declared.places.Data.{Data}
use Rattle.report_looks.specs.Allowing.{IsSpanOf}
use Rattle.report_looks.proofs.Spanned.{spans_by}
use Rattle.report_looks.proofs.allowing.allowed_at.Goals as goal

pub returns-clause-allowed : goal.returns-clause-allowed
returns-clause-allowed c = record {
  spans = subst (λ (all : List Data). AllZip IsSpanOf all c.in-Ok.spans.items) c.as_slice.ensures.value
      (spans_by c.args.map.now c.as_slice.result.now c.in-Ok.spans.items c.in-Ok.ensures.addresses);
  mixed = refl;
}
