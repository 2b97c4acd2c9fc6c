use Rattle.std.proofs.Common.{Option, subst}
use Rattle.std.specs.Prelude.{IfOk}
use Rattle.show_moments.specs.Scenes.{IsStanding, seen}
use Rattle.show_moments.specs.declared.standing.ThreadSnapshot.{ThreadSnapshot}
use Rattle.report_objects.proofs.ends.functions_of.Goals as goal

pub returns : goal.returns
returns c =
    let s = seen c.args.scene.now in
    subst (λ (o : Option ThreadSnapshot). IfOk c.functions_if_any.result (λ told. IsStanding s o told.items)) c.standing_of.ensures
    c.functions_if_any.ensures
