use Rattle.std.proofs.Common.{◌∙◌, [], Bool, ap, cond, sym}
use Rattle.show_moments.specs.Scenes.{typed_words}
use Rattle.show_moments.proofs.Scenes.{typed_all, typed_next}
use Rattle.show_moments.proofs.scene.typed_words.Goals as goal

pub loop-place-preserved : goal.loop-place-preserved
loop-place-preserved c = typed_next c.args.types.now c.args.words.now c.loop-place.place 0 c.type_at.result _ _ c.loop-place-test.true
    c.type_at.ensures c.loop-place.invariant c.in_ok-put.ensures

pub returns : goal.returns
returns c = typed_all c.args.types.now c.args.words.now c.loop-place.place _ c.loop-place-test.false c.loop-place.invariant
    ∙ ap (λ (b : Bool). cond b (typed_words c.args.words.now c.args.types.now) []) (sym c.if-not-is_listed.false)
