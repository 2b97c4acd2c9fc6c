use Rattle.report_finds.proofs.Looking.{sought_as}
use Rattle.report_finds.proofs.whole.all_of.Goals as goal

pub returns-clause-sought : goal.returns-clause-sought
returns-clause-sought g c =
    sought_as c.args.call.search.now _ _ _ _ c.early_of.ensures.sought c.early_of.ensures.wanted c.in_ok-all_endings.ensures.seeks
