use Rattle.show_waits.proofs.Telling.{says_stopped}
use Rattle.show_waits.proofs.waits.wait_text.Goals as goal

pub returns : goal.returns
returns c = says_stopped c.args.shown c.args.map.now c.args.story.now c.args.out.now c.args.n c.as_slice.result.now _ c.in-Stop.field-0 _ _
    c.as_slice.ensures c.requires c.in-Stop.is c.in_ok-place.ensures c.in_ok-text.ensures.ok
