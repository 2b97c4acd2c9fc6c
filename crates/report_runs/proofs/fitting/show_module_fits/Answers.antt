use Rattle.replay.proofs.Openable.{pages_within}
use Rattle.report_runs.proofs.fitting.show_module_fits.Goals as goal

pub returns-clause-size : goal.returns-clause-size
returns-clause-size c = c.parts-parts.ensures.tested.limits.size

pub returns-clause-pages : goal.returns-clause-pages
returns-clause-pages c = pages_within c.args.module.now.parts c.parts-parts.ensures.tested
