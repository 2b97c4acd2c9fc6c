use Rattle.std.proofs.Common.{◌∙◌, ◌++◌, ℕ, [], Option, ap, option_to_list, refl}
use Rattle.show_moments.specs.Scenes.{others_of}
use Rattle.show_moments.proofs.Listed.{item_next}
use Rattle.show_moments.proofs.scene.Scene.others.Goals as goal

pub loop-k-preserved : goal.loop-k-preserved
loop-k-preserved c = item_next (others_of c.args.self.now.moment.now.at) c.args.races.now c.loop-k.k _ _ [] _ _
    c.loop-k-test.true refl c.loop-k.invariant
    (c.in_ok-put_if_any.ensures ∙ ap (λ (o : Option ℕ). c.loop-k.others.items ++ option_to_list o) c.other_of.ensures)
