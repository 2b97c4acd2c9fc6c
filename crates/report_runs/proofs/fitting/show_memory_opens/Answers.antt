use Rattle.replay.proofs.Openable.{module_opens}
use Rattle.report_runs.proofs.fitting.show_memory_opens.Goals as goal

pub returns : goal.returns
returns c = module_opens c.args.module.now.parts c.parts-parts.ensures.tested c.parts-parts.ensures.validated.valid
