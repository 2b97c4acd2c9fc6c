use Rattle.std.proofs.Common.{◌+◌, List, map, length, take, slice_index_or, subst, sym, ◌∙◌, ap, arith}
use Rattle.std.proofs.lemmas.List.{length-map}
use Rattle.types.specs.declared.value.ValType.{ValType}
use Rattle.types.specs.declared.value.ValType.TheVariants as types
use Rattle.types.specs.declared.value.Value.{Value}
use Rattle.types.specs.Values.{type_of}
use Rattle.report_jobs.specs.Arguments.{AreSpelled}
use Rattle.report_jobs.proofs.Spelled.{spelled_length, spelled_more, spelled_at}
use Rattle.report_jobs.proofs.args.read_args.Goals as goal

pub returns-then-params-texts : goal.returns-then-params-texts
returns-then-params-texts c = λ args all fit.
    c.if-params-texts.true (ap length (sym fit) ∙ length-map args type_of ∙ sym (spelled_length (map (λ text. text.now) c.args.texts.now) args all)
    ∙ length-map c.args.texts.now (λ text. text.now))

pub returns-in_default : goal.returns-in_default
returns-in_default c = λ args all fit.
    let found = spelled_at (λ text. text.now) c.loop-i.i c.args.texts.now args _ types.I32 (omega (arith, c.loop-i-test.true, c.if-params-texts.false)) all in
    c.in_default.not-Some found.0 ((c.value_in.ensures found.0).1 (found.1, found.2 ∙ ap (λ (ps : List ValType). slice_index_or ps c.loop-i.i types.I32) fit))

pub loop-i-preserved : goal.loop-i-preserved
loop-i-preserved c =
    let v = c.in-Some.value in
    let read = (c.value_in.ensures v).0 c.in-Some.is in
    let more = spelled_more (λ text. text.now) c.loop-i.i c.args.texts.now c.args.params.now c.loop-i.args.items _ _ v
    (omega (arith, c.loop-i-test.true, c.if-params-texts.false)) c.loop-i-test.true c.loop-i.invariant.0 c.loop-i.invariant.1 read.0 read.1 in
    let items = c.in_ok-push.ensures.items in (
      subst (λ (vs : List Value). AreSpelled (map (λ text. text.now) (take (c.loop-i.i + 1) c.args.texts.now)) vs) (sym items) more.0,
      ap (map type_of) items ∙ more.1,
    )
