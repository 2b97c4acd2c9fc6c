use Rattle.search_ample.proofs.Shown.{shown-is-ample}
use Rattle.search_ample.proofs.certificate.Certificate.is_ample.Goals as goal

pub returns-clause-ample : goal.returns-clause-ample
returns-clause-ample c h = shown-is-ample c.args.self.now c.args.moves.now (c.is_shown.ensures.0 h)
