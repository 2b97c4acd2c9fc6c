use Rattle.std.proofs.Common.{Option, None, refl}
use Rattle.std.proofs.lemmas.Grind.{replicate_next}
use Rattle.types.specs.declared.event.Answer.{Answer}
use Rattle.waiters.proofs.queue.no_answers.Goals as goal

pub loop-preserved : goal.loop-preserved
loop-preserved c = rw (c.push.ensures.items, c.loop.invariant, replicate_next {X = Option Answer} c.loop.counter None) refl
