use Rattle.host_instances.proofs.First.{first_can}
use Rattle.host_instances.proofs.instance.show_first_memory.Goals as goal

pub returns : goal.returns
returns c = first_can c.args.module.now.parts c.parts-parts.ensures.tested c.parts-parts.ensures.validated.valid
