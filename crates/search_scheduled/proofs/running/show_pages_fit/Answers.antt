use Rattle.replay.proofs.Openable.{pages_within}
use Rattle.search_scheduled.proofs.running.show_pages_fit.Goals as goal

pub returns : goal.returns
returns c = pages_within c.args.module.now.parts c.parts-parts.ensures.tested
