use Rattle.types.specs.declared.event.Event.TheVariants.{Size}
use Rattle.types.specs.declared.event.Reply.TheVariants.{Value}
use Rattle.show_said.proofs.Lasts.{deed_more}
use Rattle.show_said.proofs.last.ends_saying.Goals as goal

pub loop-entry-preserved : goal.loop-entry-preserved
loop-entry-preserved c = deed_more c.args.ports.now c.args.log.now c.args.thread c.loop-entry.entry-index
    (record { thread = 0; event = Size; reply = Value 0 }) c.loop-entry-test.true _ _ c.loop-entry.invariant c.says_behind-says.ensures
