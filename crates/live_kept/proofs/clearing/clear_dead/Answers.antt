use Rattle.live_kept.proofs.Standing.{clears}
use Rattle.live_kept.proofs.clearing.clear_dead.Goals as goal

pub returns-clause-alike : goal.returns-clause-alike
returns-clause-alike c = clears c.args.tables.now c.args.kept.now c.clear_all.new.kept c.clear_all.ensures
