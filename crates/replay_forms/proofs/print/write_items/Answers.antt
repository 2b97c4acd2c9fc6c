use Rattle.replay_forms.proofs.Written.{pieces_next}
use Rattle.replay_forms.proofs.print.write_items.Goals as goal

pub loop-place-preserved : goal.loop-place-preserved
loop-place-preserved g c = pieces_next g.T.Printed.piece c.args.items.now c.loop-place.place c.index-items-place.result
    c.index-items-place.result c.loop-place-test.true c.index-items-place.is _ _ _ c.loop-place.invariant
    c.in_ok-write.ensures
