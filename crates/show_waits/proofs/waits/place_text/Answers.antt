use Rattle.std.proofs.Common.{List, inl, inr, refl, subst}
use Rattle.std.proofs.lemmas.Option.{slice_get_within}
use Rattle.std.proofs.lemmas.Result.{IfOk-weaker}
use Rattle.types.specs.declared.event.Entry.{Entry}
use Rattle.show_waits.specs.Stands.{TouchesNothing}
use Rattle.show_waits.specs.Waits.{IsToldWait}
use Rattle.show_waits.proofs.waits.place_text.Goals as goal

pub stand_text-requires-clause-within : goal.stand_text-requires-clause-within
stand_text-requires-clause-within c =
    let told = subst (λ (l : List Entry). IsToldWait c.args.n l c.args.out.now c.in-Some.wait) c.as_slice.ensures c.in-Some.ensures.waits in
    slice_get_within c.args.shown.record.now.log c.in-Some.wait.stand.last told.stand.stands.last.entry told.stand.stands.last.at

pub stand_text-requires-clause-lasts : goal.stand_text-requires-clause-lasts
stand_text-requires-clause-lasts c =
    let told = subst (λ (l : List Entry). IsToldWait c.args.n l c.args.out.now c.in-Some.wait) c.as_slice.ensures c.in-Some.ensures.waits in
    told.lasts

pub returns-in-Some : goal.returns-in-Some
returns-in-Some c =
    let told = subst (λ (l : List Entry). IsToldWait c.args.n l c.args.out.now c.in-Some.wait) c.as_slice.ensures c.in-Some.ensures.waits in
    IfOk-weaker c.stand_text.result _ _ (λ text is. inl (c.in-Some.wait.stand, told.stand, is)) c.stand_text.ensures

pub returns-in-None : goal.returns-in-None
returns-in-None c =
    let none = subst (λ (l : List Entry). TouchesNothing c.args.n l c.args.out.now) c.as_slice.ensures (c.in-None.ensures.none refl) in
    IfOk-weaker c.nowhere_text.result _ _ (λ text is. inr (none, is)) c.nowhere_text.ensures
