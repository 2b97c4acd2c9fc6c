use Rattle.std.proofs.Common.{◌∷◌, [], replicate}
use Rattle.std.proofs.lemmas.Grind.{replicate_next}
use Rattle.std.proofs.lemmas.List.{append_assoc}
use Rattle.binary.proofs.bodies.push_locals.Goals as goal

pub loop-preserved : goal.loop-preserved
loop-preserved c =
    rw (c.in_ok-push.ensures.items, c.loop.invariant, replicate_next c.loop.counter c.args.val_type)
    (append_assoc c.args.locals.now.items (replicate c.loop.counter c.args.val_type) (c.args.val_type ∷ []))
