use Rattle.std.proofs.Common.{inr, Option, Some, None, IfSome}
use Rattle.report_command.specs.Addresses.{IsSpanOf, IsStretch}
use Rattle.report_command.proofs.places.stretch_in.Goals as goal

weaker : {T : Type 0} (o : Option T) (P Q : T → Type 0) → ((t : T) → P t → Q t) → IfSome o P → IfSome o Q
weaker None P Q f p = tt
weaker (Some t) P Q f p = f t p

pub returns : goal.returns
returns c =
    let b = c.in_ok-first-2 in
    weaker c.span_of.result (IsSpanOf b.first b.count) (IsStretch c.args.text.now)
    (λ s is. inr (b.first, b.count, b.ensures.spelled, is)) c.span_of.ensures
